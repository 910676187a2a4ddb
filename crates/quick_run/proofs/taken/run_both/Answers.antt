use Rattle.quick_run.proofs.SameLaws.{quick_run_is_run}
use Rattle.quick_run.proofs.taken.run_both.Goals as goal

pub returns : goal.returns
returns c = quick_run_is_run _ _ _ _ _ _ _ _ _ _ _ _ _ _ c.requires c.run-general.ensures c.run-quick.ensures
