use Rattle.quick_run.proofs.TakenLaws.{stepped_so}
use borrow.Author.Rules.{rules}
use Rattle.quick_run.proofs.taken.step.Goals as goal

pub returns : goal.returns
returns c = search (stepped_so, rules)
