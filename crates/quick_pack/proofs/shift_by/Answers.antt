use Rattle.quick_pack.proofs.Laws.{by_cl, by_given}
use borrow.Author.Rules.{rules}
use Rattle.quick_pack.proofs.shift_by.Goals as goal

pub returns-in-InCl : goal.returns-in-InCl
returns-in-InCl c = search (by_cl, rules)

pub returns-in-Given : goal.returns-in-Given
returns-in-Given c = search (by_given, rules)
