use Rattle.mach_tally.proofs.Laws.{sums}
use Rattle.do_field.proofs.Laws.{first_is}
use borrow.Author.Rules.{rules}
use Rattle.do_field.proofs.first_part.Goals as goal

pub returns : goal.returns
returns c = search (first_is, sums, rules)
