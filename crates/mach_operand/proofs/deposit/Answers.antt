use Rattle.mach_tally.proofs.Laws.{sums}
use Rattle.mach_operand.proofs.Laws.{deposit_memory, deposit_register}
use borrow.Author.Rules.{rules}
use Rattle.mach_operand.proofs.deposit.Goals as goal

pub returns-in-InRegister : goal.returns-in-InRegister
returns-in-InRegister c = search (deposit_register, sums, rules)

pub returns-in-InMemory : goal.returns-in-InMemory
returns-in-InMemory c = search (deposit_memory, sums, rules)
