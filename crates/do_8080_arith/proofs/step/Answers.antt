use Rattle.do_8080_arith.proofs.Laws.{changing_is}
use Rattle.mach_tally.proofs.Laws.{sums}
use borrow.Author.Rules.{rules}
use Rattle.do_8080_arith.proofs.step.Goals as goal

pub returns : goal.returns
returns c = search (changing_is, sums, rules)
