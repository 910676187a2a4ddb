use Rattle.hex_fault.proofs.Laws.{segment_given, segment_kept}
use borrow.Author.Rules.{rules}
use Rattle.hex_fault.proofs.segment_after.Goals as goal

pub returns-then-kind_of-eq2 : goal.returns-then-kind_of-eq2
returns-then-kind_of-eq2 c = search (segment_given, rules)

pub returns : goal.returns
returns c = search (segment_kept, rules)
