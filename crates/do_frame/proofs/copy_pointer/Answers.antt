use Rattle.mach_tally.proofs.Laws.{sums}
use Rattle.do_frame.proofs.Laws.{pointer_is}
use borrow.Author.Rules.{rules}
use Rattle.do_frame.proofs.copy_pointer.Goals as goal

pub returns : goal.returns
returns c = search (pointer_is, sums, rules)
