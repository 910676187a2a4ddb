use Rattle.mach_tally.proofs.Laws.{sums}
use Rattle.do_arith.proofs.Laws.{test_is}
use borrow.Author.Rules.{rules}
use Rattle.do_arith.proofs.test.Goals as goal

pub returns : goal.returns
returns c = search (test_is, sums, rules)
