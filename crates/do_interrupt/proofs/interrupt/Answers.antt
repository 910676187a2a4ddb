use Rattle.sheet.specs.Interrupts.{interrupts}
use Rattle.sheet.proofs.Lifted.{memory_known}
use borrow.Author.Rules.{rules}
use Rattle.do_interrupt.proofs.interrupt.Goals as goal

pub returns-in-Brk3 : goal.returns-in-Brk3
unfolding interrupts
returns-in-Brk3 c = search (memory_known interrupts, rules)

pub returns-in-Brk : goal.returns-in-Brk
unfolding interrupts
returns-in-Brk c = search (memory_known interrupts, rules)

pub returns-in-Brkv : goal.returns-in-Brkv
unfolding interrupts
returns-in-Brkv c = search (memory_known interrupts, rules)

pub returns-in-Chkind : goal.returns-in-Chkind
unfolding interrupts
returns-in-Chkind c = search (memory_known interrupts, rules)
