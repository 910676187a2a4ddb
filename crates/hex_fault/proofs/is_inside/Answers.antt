use borrow.Author.Rules.{rules}
use Rattle.hex_fault.proofs.Laws.{before_image, above_all, in_order}
use Rattle.hex_fault.proofs.is_inside.Goals as goal

pub returns-then-a-first : goal.returns-then-a-first
returns-then-a-first c = search (before_image, rules)

pub returns-then-a-ge1048576 : goal.returns-then-a-ge1048576
returns-then-a-ge1048576 c = search (above_all, rules)

pub returns : goal.returns
returns c = search (in_order, rules)
