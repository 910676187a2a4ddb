use Rattle.quick_run.proofs.TakenLaws.{run_so}
use borrow.Author.Rules.{rules}
use Rattle.quick_run.proofs.taken.run.Goals as goal

pub returns : goal.returns
returns c = search (run_so, rules)
