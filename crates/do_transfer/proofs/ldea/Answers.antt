use Rattle.mach_tally.proofs.Laws.{sums}
use Rattle.do_transfer.proofs.Laws.{ldea_is}
use borrow.Author.Rules.{rules}
use Rattle.do_transfer.proofs.ldea.Goals as goal

pub returns : goal.returns
returns c = search (ldea_is, sums, rules)
