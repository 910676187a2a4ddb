use Rattle.do_conditional.proofs.Laws.{condition_is}
use borrow.Author.Rules.{rules}
use Rattle.do_conditional.proofs.condition.Goals as goal

pub returns : goal.returns
returns c = search (condition_is, rules)
