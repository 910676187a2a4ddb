use Rattle.mach_tally.proofs.Laws.{sums}
use Rattle.do_field.proofs.Laws.{no_second, second_is}
use borrow.Author.Rules.{rules}
use Rattle.do_field.proofs.second_part.Goals as goal

pub returns-then-end-gt16 : goal.returns-then-end-gt16
returns-then-end-gt16 c = search (second_is, sums, rules)

pub returns : goal.returns
returns c = search (no_second, sums, rules)
