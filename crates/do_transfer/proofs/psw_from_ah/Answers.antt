use Rattle.mach_tally.proofs.Laws.{sums}
use Rattle.do_transfer.proofs.Laws.{psw_from_ah_is}
use borrow.Author.Rules.{rules}
use Rattle.do_transfer.proofs.psw_from_ah.Goals as goal

pub returns : goal.returns
returns c = search (psw_from_ah_is, sums, rules)
