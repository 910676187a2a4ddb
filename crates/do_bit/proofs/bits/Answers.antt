use Rattle.mach_tally.proofs.Laws.{sums}
use Rattle.do_bit.proofs.Laws.{bits_is}
use borrow.Author.Rules.{rules}
use Rattle.do_bit.proofs.bits.Goals as goal

pub returns : goal.returns
returns c = search (bits_is, sums, rules)
