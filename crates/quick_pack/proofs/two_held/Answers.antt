use Rattle.quick_pack.proofs.Laws.{two_from_register, two_from_memory}
use borrow.Author.Rules.{rules}
use Rattle.quick_pack.proofs.two_held.Goals as goal

pub returns-in-Register : goal.returns-in-Register
returns-in-Register c = search (two_from_register, rules)

pub returns-in-Register-to : goal.returns-in-Register-to
returns-in-Register-to c = search (two_from_memory, rules)
