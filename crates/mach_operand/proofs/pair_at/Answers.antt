use Rattle.mach_tally.proofs.Laws.{sums}
use Rattle.mach_operand.proofs.Laws.{pair_is}
use borrow.Author.Rules.{rules}
use Rattle.mach_operand.proofs.pair_at.Goals as goal

pub returns : goal.returns
returns c = search (pair_is, sums, rules)
