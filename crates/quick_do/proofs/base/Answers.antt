use Rattle.quick_do.proofs.Laws.{base_is}
use borrow.Author.Rules.{rules}
use Rattle.quick_do.proofs.base.Goals as goal

pub returns : goal.returns
returns c = search (base_is, rules)
