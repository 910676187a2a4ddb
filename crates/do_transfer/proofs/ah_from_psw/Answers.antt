use Rattle.mach_tally.proofs.Laws.{sums}
use Rattle.do_transfer.proofs.Laws.{ah_from_psw_is}
use borrow.Author.Rules.{rules}
use Rattle.do_transfer.proofs.ah_from_psw.Goals as goal

pub returns : goal.returns
returns c = search (ah_from_psw_is, sums, rules)
