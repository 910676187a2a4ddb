use native.Mathlib.Omega.{arith}
use lib.Pow.{pow_pos}
use Rattle.base_at_once.proofs.Round.{power_is, turn_is, around_fits}
use Rattle.base_at_once.proofs.turn.Goals as goal

pub nonzero_rem-low : goal.nonzero_rem-low
nonzero_rem-low c = rw (power_is c.args.r (omega arith)) (pow_pos c.args.r)

pub overflow_add-result : goal.overflow_add-result
overflow_add-result c = rw (turn_is c.args.r c.args.s c.args.x (omega arith)) (omega (arith, around_fits c.args.r c.args.s c.args.x (omega arith) (omega arith)))

pub returns : goal.returns
returns c = turn_is c.args.r c.args.s c.args.x (omega arith)
