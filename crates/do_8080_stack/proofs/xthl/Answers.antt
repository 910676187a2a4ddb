use Rattle.mach_tally.proofs.Laws.{sums}
use Rattle.do_8080_stack.proofs.Laws.{xthl_is}
use borrow.Author.Rules.{rules}
use Rattle.do_8080_stack.proofs.xthl.Goals as goal

pub returns : goal.returns
returns c = search (xthl_is, sums, rules)
