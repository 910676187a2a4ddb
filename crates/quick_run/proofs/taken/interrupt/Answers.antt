use Rattle.quick_run.proofs.TakenLaws.{interrupted_so}
use borrow.Author.Rules.{rules}
use Rattle.quick_run.proofs.taken.interrupt.Goals as goal

pub returns : goal.returns
returns c = search (interrupted_so, rules)
