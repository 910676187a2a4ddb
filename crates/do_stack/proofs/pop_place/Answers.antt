use Rattle.mach_tally.proofs.Laws.{sums}
use Rattle.do_stack.proofs.Laws.{pop_place_is}
use borrow.Author.Rules.{rules}
use Rattle.do_stack.proofs.pop_place.Goals as goal

pub returns : goal.returns
returns c = search (pop_place_is, sums, rules)
