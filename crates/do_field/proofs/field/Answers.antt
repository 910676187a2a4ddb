use Rattle.sheet.specs.Fields.{field}
use Rattle.sheet.proofs.Lifted.{memory_known}
use borrow.Author.Rules.{rules}
use Rattle.do_field.proofs.field.Goals as goal

pub returns-in-Ins : goal.returns-in-Ins
unfolding field
returns-in-Ins c = search (memory_known field, rules)

pub returns-in-Ext : goal.returns-in-Ext
unfolding field
returns-in-Ext c = search (memory_known field, rules)
