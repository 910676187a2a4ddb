use Rattle.mach_tally.proofs.Laws.{sums}
use Rattle.do_stack.proofs.Laws.{push_held_is}
use borrow.Author.Rules.{rules}
use Rattle.do_stack.proofs.push_held.Goals as goal

pub returns : goal.returns
returns c = search (push_held_is, sums, rules)
