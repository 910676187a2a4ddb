use Rattle.quick_perform.proofs.SharedLaws.{shift_by_is}
use borrow.Author.Rules.{rules}
use Rattle.quick_perform.proofs.shared.shift_by.Goals as goal

pub returns : goal.returns
returns c = search (shift_by_is, rules)
