use Rattle.mach_tally.proofs.Laws.{sums}
use Rattle.do_shift.proofs.Laws.{one_is}
use borrow.Author.Rules.{rules}
use Rattle.do_shift.proofs.by_one.Goals as goal

pub returns : goal.returns
returns c = search (one_is, sums, rules)
