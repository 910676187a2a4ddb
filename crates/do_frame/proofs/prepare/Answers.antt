use Rattle.mach_tally.proofs.Laws.{sums}
use Rattle.do_frame.proofs.Laws.{prepare_is}
use borrow.Author.Rules.{rules}
use Rattle.do_frame.proofs.prepare.Goals as goal

pub returns : goal.returns
returns c = search (prepare_is, sums, rules)
