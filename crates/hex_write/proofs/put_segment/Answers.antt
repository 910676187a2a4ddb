use Rattle.hex_form.specs.Writing.{segment_text}
use borrow.Author.Rules.{rules}
use Rattle.hex_write.proofs.put_segment.Goals as goal

pub returns : goal.returns
unfolding segment_text
returns c = search rules
