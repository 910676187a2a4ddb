use Rattle.mach_tally.proofs.Laws.{sums}
use Rattle.do_multiply.proofs.Laws.{both_held, quotient_is, trap_is}
use borrow.Author.Rules.{rules}
use Rattle.do_multiply.proofs.divided.Goals as goal

pub set_quotient-requires : goal.set_quotient-requires
set_quotient-requires c = search (both_held, rules)

pub returns-in-Some : goal.returns-in-Some
returns-in-Some c = search (quotient_is, sums, rules)

pub returns-in-None : goal.returns-in-None
returns-in-None c = search (trap_is, rules)
