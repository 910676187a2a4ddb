use Rattle.do_8080_arith.proofs.Laws.{dad_is}
use Rattle.mach_tally.proofs.Laws.{sums}
use borrow.Author.Rules.{rules}
use Rattle.do_8080_arith.proofs.dad.Goals as goal

pub returns : goal.returns
returns c = search (dad_is, sums, rules)
