use Rattle.quick_do.proofs.Laws.{offset_given, offset_formed}
use borrow.Author.Rules.{rules}
use Rattle.quick_do.proofs.offset.Goals as goal

pub returns-then-form-eq-NO_FORM : goal.returns-then-form-eq-NO_FORM
returns-then-form-eq-NO_FORM c = search (offset_given, rules)

pub returns : goal.returns
returns c = search (offset_formed, rules)
