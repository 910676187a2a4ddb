use Rattle.mach_tally.proofs.Laws.{sums}
use Rattle.mach_stack.proofs.Laws.{fetches}
use borrow.Author.Rules.{rules}
use Rattle.mach_stack.proofs.vector.Goals as goal

pub returns : goal.returns
returns c = search (fetches, sums, rules)
