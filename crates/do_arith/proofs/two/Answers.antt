use Rattle.mach_tally.proofs.Laws.{memory_three}
use Rattle.do_arith.proofs.Laws.{two_is}
use borrow.Author.Rules.{rules}
use Rattle.do_arith.proofs.two.Goals as goal

pub returns : goal.returns
returns c = memory_three c.three.ensures (search (two_is, c.locate-spot.ensures, rules))
