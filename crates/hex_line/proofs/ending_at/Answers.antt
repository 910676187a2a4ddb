use Rattle.hex_line.proofs.Laws.{ends_by_lf, ends_by_cr_lf, goes_on}
use borrow.Author.Rules.{rules}
use Rattle.hex_line.proofs.ending_at.Goals as goal

pub returns-then-c-eq10 : goal.returns-then-c-eq10
returns-then-c-eq10 c = search (ends_by_lf, rules)

pub returns-then-c-next : goal.returns-then-c-next
returns-then-c-next c = search (ends_by_cr_lf, rules)

pub returns : goal.returns
returns c = search (goes_on, rules)
