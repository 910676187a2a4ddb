use Rattle.do_8080_arith.proofs.Laws.{cma_is}
use Rattle.mach_tally.proofs.Laws.{sums}
use borrow.Author.Rules.{rules}
use Rattle.do_8080_arith.proofs.cma.Goals as goal

pub returns : goal.returns
returns c = search (cma_is, sums, rules)
