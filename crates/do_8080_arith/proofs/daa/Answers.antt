use Rattle.do_8080_arith.proofs.Laws.{daa_is}
use Rattle.mach_tally.proofs.Laws.{sums}
use borrow.Author.Rules.{rules}
use Rattle.do_8080_arith.proofs.daa.Goals as goal

pub returns : goal.returns
returns c = search (daa_is, sums, rules)
