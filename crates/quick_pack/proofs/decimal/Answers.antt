use Rattle.quick_pack.proofs.Laws.{string_of}
use borrow.Author.Rules.{rules}
use Rattle.quick_pack.proofs.decimal.Goals as goal

pub returns-in-Add4s : goal.returns-in-Add4s
returns-in-Add4s c = search (string_of, rules)

pub returns-in-Sub4s : goal.returns-in-Sub4s
returns-in-Sub4s c = search (string_of, rules)

pub returns-in-Cmp4s : goal.returns-in-Cmp4s
returns-in-Cmp4s c = search (string_of, rules)
