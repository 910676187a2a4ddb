use Rattle.quick_do.proofs.Laws.{branch_if_is}
use borrow.Author.Rules.{rules}
use Rattle.quick_do.proofs.branch_if.Goals as goal

pub returns : goal.returns
returns c = search (branch_if_is, rules)
