use Rattle.do_8080_arith.proofs.Laws.{counting_is}
use Rattle.mach_tally.proofs.Laws.{sums}
use borrow.Author.Rules.{rules}
use Rattle.do_8080_arith.proofs.step_pair.Goals as goal

pub returns : goal.returns
returns c = search (counting_is, sums, rules)
