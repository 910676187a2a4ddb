use Rattle.quick_perform.proofs.SharedLaws.{convert_is}
use borrow.Author.Rules.{rules}
use Rattle.quick_perform.proofs.shared.convert.Goals as goal

pub returns : goal.returns
returns c = search (convert_is, rules)
