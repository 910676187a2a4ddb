use native.Mathlib.Omega.{arith}
use lib.Pow.{pow_mono}
use Rattle.base_at_once.proofs.Round.{rest_lt, left_is, left_lt}
use Rattle.base_at_once.proofs.left.Goals as goal

pub overflow_sub-bits : goal.overflow_sub-bits
overflow_sub-bits c = omega (arith, rest_lt c.args.bits c.args.n (omega arith))

pub turn-requires : goal.turn-requires
turn-requires c = omega (arith, rest_lt c.args.bits c.args.n (omega arith), pow_mono {i = c.args.bits} {j = 17} (omega arith))

pub returns : goal.returns
returns c = rw c.turn.ensures (left_is c.args.bits c.args.n c.args.x (omega arith) (omega arith), left_lt c.args.bits c.args.n c.args.x (omega arith) (omega arith))
