use Rattle.mach_tally.proofs.Laws.{sums}
use Rattle.do_shift.proofs.Laws.{counted_is}
use borrow.Author.Rules.{rules}
use Rattle.do_shift.proofs.by_amount.Goals as goal

pub returns : goal.returns
returns c = search (counted_is, sums, rules)
