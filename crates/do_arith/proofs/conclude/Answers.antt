use Rattle.mach_tally.proofs.Laws.{sums}
use Rattle.do_arith.proofs.Laws.{concludes, drops_cmp}
use borrow.Author.Rules.{rules}
use Rattle.do_arith.proofs.conclude.Goals as goal

pub returns-in-Cmp : goal.returns-in-Cmp
returns-in-Cmp c = search (drops_cmp, sums, rules)

pub returns-in_default : goal.returns-in_default
returns-in_default c = search (concludes, rules)
