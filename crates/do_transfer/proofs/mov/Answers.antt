use Rattle.mach_tally.proofs.Laws.{sums}
use Rattle.do_transfer.proofs.Laws.{mov_is}
use borrow.Author.Rules.{rules}
use Rattle.do_transfer.proofs.mov.Goals as goal

pub returns : goal.returns
returns c = search (mov_is, sums, rules)
