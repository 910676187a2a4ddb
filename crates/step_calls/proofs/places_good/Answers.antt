use native.Mathlib.Omega.{arith}
use Rattle.step_calls.proofs.Laws.{count_good}
use Rattle.step_calls.proofs.places_good.Goals as goal

-- `step_calls::places_good` meets its contract: the type of the count holds it below the ceiling.
-- Assumes nothing.
pub returns : goal.returns
returns c = let a = c.args in count_good a.s a.tape.now a.log.now (omega (arith, c.struct_known-2-1.given))
