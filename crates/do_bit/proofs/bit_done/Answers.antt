use Rattle.mach_tally.proofs.Laws.{sums}
use Rattle.sheet.specs.Bits.{bit_done}
use Rattle.do_bit.proofs.Laws.{at_not, at_test, bit_known}
use borrow.Author.Rules.{rules}
use Rattle.do_bit.proofs.bit_done.Goals as goal

pub returns-in-Test1 : goal.returns-in-Test1
returns-in-Test1 c = search (at_test, sums, rules)

pub returns-in-Not1 : goal.returns-in-Not1
returns-in-Not1 c = search (at_not, rules)

pub returns-in-Clr1 : goal.returns-in-Clr1
unfolding bit_done
returns-in-Clr1 c = search (bit_known, rules)

pub returns-in-Set1 : goal.returns-in-Set1
unfolding bit_done
returns-in-Set1 c = search (bit_known, rules)
