use Rattle.quick_pack.proofs.Laws.{known, test_register}
use Rattle.sheet.specs.Groups.{Calculates}
use borrow.Author.Rules.{rules}
use Rattle.quick_pack.proofs.calculate.Goals as goal

pub returns-in-Two : goal.returns-in-Two
returns-in-Two c = search (known Calculates, rules)

pub returns-in-One : goal.returns-in-One
returns-in-One c = search (known Calculates, rules)

pub returns-in-Register : goal.returns-in-Register
returns-in-Register c = search (test_register, rules)
