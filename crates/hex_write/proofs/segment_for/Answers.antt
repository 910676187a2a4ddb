use Rattle.hex_write.proofs.Laws.{kept, new}
use borrow.Author.Rules.{rules}
use Rattle.hex_write.proofs.segment_for.Goals as goal

pub returns-then-a-g : goal.returns-then-a-g
returns-then-a-g c = search (kept, rules)

pub returns : goal.returns
returns c = search (new, rules)
