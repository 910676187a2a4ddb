use Rattle.mach_tally.proofs.Laws.{sums}
use Rattle.do_decimal.proofs.Laws.{rol4_is}
use borrow.Author.Rules.{rules}
use Rattle.do_decimal.proofs.rol4.Goals as goal

pub returns : goal.returns
returns c = search (rol4_is, sums, rules)
