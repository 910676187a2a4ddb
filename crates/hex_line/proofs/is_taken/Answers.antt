use borrow.Author.Rules.{rules}
use Rattle.hex_line.proofs.Laws.{data_taken, offset_given, end_taken, segment_taken}
use Rattle.hex_line.proofs.is_taken.Goals as goal

pub returns-then-k-eq0 : goal.returns-then-k-eq0
returns-then-k-eq0 c = search (data_taken, rules)

pub returns-then-o-ne0 : goal.returns-then-o-ne0
returns-then-o-ne0 c = search (offset_given, rules)

pub returns-then-k-eq1 : goal.returns-then-k-eq1
returns-then-k-eq1 c = search (end_taken, rules)

pub returns : goal.returns
returns c = search (segment_taken, rules)
