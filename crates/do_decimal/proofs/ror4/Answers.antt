use Rattle.mach_tally.proofs.Laws.{sums}
use Rattle.do_decimal.proofs.Laws.{ror4_is}
use borrow.Author.Rules.{rules}
use Rattle.do_decimal.proofs.ror4.Goals as goal

pub returns : goal.returns
returns c = search (ror4_is, sums, rules)
