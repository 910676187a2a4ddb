use Rattle.mach_tally.proofs.Laws.{sums}
use Rattle.do_interrupt.proofs.Laws.{goes_on, traps}
use borrow.Author.Rules.{rules}
use Rattle.do_interrupt.proofs.trap_if.Goals as goal

pub returns-then-b : goal.returns-then-b
returns-then-b c = search (traps, rules)

pub returns : goal.returns
returns c = search (goes_on, sums, rules)
