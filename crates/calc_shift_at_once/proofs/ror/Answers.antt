use mathlib.Core.Path.{refl}
use native.Mathlib.Omega.{arith}
use Rattle.calc_shift_at_once.proofs.Right.{ror_room, ror_cast, ror_is}
use Rattle.calc_shift_at_once.proofs.ror.Goals as goal

pub right-y-requires : goal.right-y-requires
right-y-requires c = ror_room c.args.word c.width.result c.args.t.value c.width.ensures.0 (omega arith)

pub overflow_cast-result : goal.overflow_cast-result
overflow_cast-result c = omega (arith, ror_cast c.args.word c.width.result c.args.m c.args.t.value c.right-y.result c.width.ensures.0 c.right-y.ensures (omega arith))

pub returns : goal.returns
returns c = ror_is _ _ _ _ _ _ c.width.ensures.0 c.right-y.ensures refl
