use Rattle.sheet.specs.Decimal.{decimal}
use Rattle.sheet.proofs.Lifted.{memory_known}
use borrow.Author.Rules.{rules}
use Rattle.do_decimal.proofs.decimal.Goals as goal

pub returns-in-Add4s : goal.returns-in-Add4s
unfolding decimal
returns-in-Add4s c = search (memory_known decimal, rules)

pub returns-in-Sub4s : goal.returns-in-Sub4s
unfolding decimal
returns-in-Sub4s c = search (memory_known decimal, rules)

pub returns-in-Cmp4s : goal.returns-in-Cmp4s
unfolding decimal
returns-in-Cmp4s c = search (memory_known decimal, rules)

pub returns-in-Rol4 : goal.returns-in-Rol4
unfolding decimal
returns-in-Rol4 c = search (memory_known decimal, rules)

pub returns-in-Ror4 : goal.returns-in-Ror4
unfolding decimal
returns-in-Ror4 c = search (memory_known decimal, rules)
