use mathlib.Core.Path.{sym, ◌∙◌}
use native.Mathlib.Omega.{arith}
use Rattle.base_at_once.proofs.Round.{rest_lt, right_is}
use Rattle.base_at_once.proofs.right.Goals as goal

pub overflow_sub-bits : goal.overflow_sub-bits
overflow_sub-bits c = omega (arith, rest_lt c.args.bits c.args.n (omega arith))

pub turn-requires : goal.turn-requires
turn-requires c = omega (arith, rest_lt c.args.bits c.args.n (omega arith))

pub returns : goal.returns
returns c = c.turn.ensures ∙ rw c.whole_turns.ensures.0 (sym (right_is c.args.bits c.args.n c.args.x (omega arith) (omega arith)))
