use Rattle.do_transfer.proofs.Laws.{to_segment_is}
use borrow.Author.Rules.{rules}
use Rattle.do_transfer.proofs.to_segment.Goals as goal

pub returns : goal.returns
returns c = search (to_segment_is, rules)
