use Rattle.quick_do.proofs.Laws.{drops_cmp, keeps}
use borrow.Author.Rules.{rules}
use Rattle.quick_do.proofs.conclude.Goals as goal

pub returns-in-Cmp : goal.returns-in-Cmp
returns-in-Cmp c = search (drops_cmp, rules)

pub returns-in_default : goal.returns-in_default
returns-in_default c = search (keeps, rules)
