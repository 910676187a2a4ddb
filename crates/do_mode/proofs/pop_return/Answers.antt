use Rattle.mach_tally.proofs.Laws.{sums}
use Rattle.do_mode.proofs.Laws.{return_is}
use borrow.Author.Rules.{rules}
use Rattle.do_mode.proofs.pop_return.Goals as goal

pub returns : goal.returns
returns c = search (return_is, sums, rules)
