use Rattle.mach_tally.proofs.Laws.{sums}
use Rattle.sheet.specs.Multiply.{div, signed_quotient}
use Rattle.do_multiply.proofs.Laws.{quotient_by, signed_within}
use borrow.Author.Rules.{rules}
use Rattle.do_multiply.proofs.div.Goals as goal

pub divided-w-requires : goal.divided-w-requires
divided-w-requires c = search (signed_within, rules)

pub returns : goal.returns
unfolding div
returns c = search (quotient_by signed_quotient, sums, rules)
