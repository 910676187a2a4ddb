use Rattle.mach_tally.proofs.Laws.{sums}
use Rattle.do_interrupt.proofs.Laws.{chkind_is}
use borrow.Author.Rules.{rules}
use Rattle.do_interrupt.proofs.chkind.Goals as goal

pub returns : goal.returns
returns c = search (chkind_is, sums, rules)
