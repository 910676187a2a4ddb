use Rattle.quick_perform.proofs.SharedLaws.{address_direct, address_formed}
use borrow.Author.Rules.{rules}
use Rattle.quick_perform.proofs.shared.address_of.Goals as goal

pub returns-then-form-eq-NO_FORM : goal.returns-then-form-eq-NO_FORM
returns-then-form-eq-NO_FORM c = search (address_direct, rules)

pub returns : goal.returns
returns c = search (address_formed, rules)
