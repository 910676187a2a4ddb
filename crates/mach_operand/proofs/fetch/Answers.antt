use Rattle.mach_tally.proofs.Laws.{sums}
use Rattle.mach_operand.proofs.Laws.{fetch_memory, fetch_register}
use borrow.Author.Rules.{rules}
use Rattle.mach_operand.proofs.fetch.Goals as goal

pub returns-in-InRegister : goal.returns-in-InRegister
returns-in-InRegister c = search (fetch_register, sums, rules)

pub returns-in-InMemory : goal.returns-in-InMemory
returns-in-InMemory c = search (fetch_memory, sums, rules)
