use Rattle.sheet.specs.Step.{reset}
use Rattle.step_calls.proofs.reset.Goals as goal

pub returns : goal.returns
unfolding reset
returns c = cc
