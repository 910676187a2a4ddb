use Rattle.do_conditional.proofs.Laws.{branch_if_is}
use borrow.Author.Rules.{rules}
use Rattle.do_conditional.proofs.branch_if.Goals as goal

pub returns : goal.returns
returns c = search (branch_if_is, rules)
