use Rattle.do_8080_arith.proofs.Laws.{rotate_is}
use Rattle.mach_tally.proofs.Laws.{sums}
use borrow.Author.Rules.{rules}
use Rattle.do_8080_arith.proofs.rotate.Goals as goal

pub returns : goal.returns
returns c = search (rotate_is, sums, rules)
