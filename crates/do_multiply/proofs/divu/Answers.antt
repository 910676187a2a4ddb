use Rattle.mach_tally.proofs.Laws.{sums}
use Rattle.sheet.specs.Multiply.{divu, unsigned_quotient}
use Rattle.do_multiply.proofs.Laws.{quotient_by, unsigned_within}
use borrow.Author.Rules.{rules}
use Rattle.do_multiply.proofs.divu.Goals as goal

pub divided-w-requires : goal.divided-w-requires
divided-w-requires c = search (unsigned_within, rules)

pub returns : goal.returns
unfolding divu
returns c = search (quotient_by unsigned_quotient, sums, rules)
