use Rattle.quick_perform.proofs.SharedLaws.{string_is}
use borrow.Author.Rules.{rules}
use Rattle.quick_perform.proofs.shared.string.Goals as goal

pub returns : goal.returns
returns c = search (string_is, rules)
