use Rattle.mach_tally.proofs.Laws.{sums}
use Rattle.do_transfer.proofs.Laws.{xch_is}
use borrow.Author.Rules.{rules}
use Rattle.do_transfer.proofs.xch.Goals as goal

pub returns : goal.returns
returns c = search (xch_is, sums, rules)
