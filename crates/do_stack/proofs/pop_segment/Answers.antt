use Rattle.do_stack.proofs.Laws.{pop_segment_is}
use borrow.Author.Rules.{rules}
use Rattle.do_stack.proofs.pop_segment.Goals as goal

pub returns : goal.returns
returns c = search (pop_segment_is, rules)
