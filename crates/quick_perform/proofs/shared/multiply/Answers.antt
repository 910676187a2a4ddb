use Rattle.quick_perform.proofs.SharedLaws.{multiply_is}
use borrow.Author.Rules.{rules}
use Rattle.quick_perform.proofs.shared.multiply.Goals as goal

pub returns : goal.returns
returns c = search (multiply_is, rules)
