use Rattle.mach_tally.proofs.Laws.{sums}
use Rattle.mach_stack.proofs.Laws.{save_is}
use borrow.Author.Rules.{rules}
use Rattle.mach_stack.proofs.save.Goals as goal

pub returns : goal.returns
returns c = search (save_is, sums, rules)
