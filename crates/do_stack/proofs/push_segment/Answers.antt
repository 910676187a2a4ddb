use Rattle.do_stack.proofs.Laws.{push_segment_is}
use borrow.Author.Rules.{rules}
use Rattle.do_stack.proofs.push_segment.Goals as goal

pub returns : goal.returns
returns c = search (push_segment_is, rules)
