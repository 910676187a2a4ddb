use mathlib.Core.Path.{refl}
use native.Mathlib.Omega.{arith}
use Rattle.calc_shift_at_once.proofs.Joined.{mod_le}
use Rattle.calc_shift_at_once.proofs.Left.{rol_room, width_power, rol_is}
use Rattle.calc_shift_at_once.proofs.rol.Goals as goal

pub left-y-requires : goal.left-y-requires
left-y-requires c = rol_room _ _ _ _ c.width.ensures.0 c.fit.ensures

pub overflow_cast-result : goal.overflow_cast-result
overflow_cast-result c = omega (arith, mod_le c.args.word, width_power c.args.word c.width.result c.left-y.result c.width.ensures.0 c.left-y.ensures.1)

pub returns : goal.returns
returns c = rol_is _ _ _ _ _ _ _ c.width.ensures.0 c.fit.ensures c.left-y.ensures.0 c.left-y.ensures.1 refl
