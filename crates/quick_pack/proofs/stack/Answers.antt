use Rattle.quick_pack.proofs.Laws.{push_register, pop_register}
use borrow.Author.Rules.{rules}
use Rattle.quick_pack.proofs.stack.Goals as goal

pub returns-in-Register : goal.returns-in-Register
returns-in-Register c = search (push_register, rules)

pub returns-in-Register-to : goal.returns-in-Register-to
returns-in-Register-to c = search (pop_register, rules)
