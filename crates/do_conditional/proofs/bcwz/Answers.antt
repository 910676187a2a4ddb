use Rattle.do_conditional.proofs.Laws.{bcwz_is}
use borrow.Author.Rules.{rules}
use Rattle.do_conditional.proofs.bcwz.Goals as goal

pub returns : goal.returns
returns c = search (bcwz_is, rules)
