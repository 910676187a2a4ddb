use Rattle.quick_perform.proofs.RegisterLaws.{from_segment_is}
use borrow.Author.Rules.{rules}
use Rattle.quick_perform.proofs.registers.from_segment.Goals as goal

pub returns : goal.returns
returns c = search (from_segment_is, rules)
