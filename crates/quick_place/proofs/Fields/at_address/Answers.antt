use Rattle.std.proofs.Common.{rules}
use Rattle.quick_place.proofs.Laws.{at_form, at_offset}
use Rattle.quick_place.proofs.Fields.at_address.Goals as goal

pub returns-else-form-eq-NO_FORM : goal.returns-else-form-eq-NO_FORM
returns-else-form-eq-NO_FORM c = search (at_form, rules)

pub returns-in-Direct : goal.returns-in-Direct
returns-in-Direct c = search (at_offset, rules)
