use Rattle.step_end.proofs.Laws.{begun_is}
use borrow.Author.Rules.{rules}
use Rattle.step_end.proofs.begin.Goals as goal

pub returns : goal.returns
returns c = search (begun_is, rules)
