use Rattle.do_transfer.proofs.Laws.{from_segment_is}
use borrow.Author.Rules.{rules}
use Rattle.do_transfer.proofs.from_segment.Goals as goal

pub returns : goal.returns
returns c = search (from_segment_is, rules)
