use Rattle.quick_do.proofs.Laws.{offset_two, offset_one}
use borrow.Author.Rules.{rules}
use Rattle.quick_do.proofs.form_offset.Goals as goal

pub returns-then-form-lt4 : goal.returns-then-form-lt4
returns-then-form-lt4 c = search (offset_two, rules)

pub returns : goal.returns
returns c = search (offset_one, rules)
