use Rattle.hex_write.proofs.Lines.{too_long, too_high, small, done}
use borrow.Author.Rules.{rules}
use Rattle.hex_write.proofs.write.Goals as goal

pub returns-then-image-gt1048576 : goal.returns-then-image-gt1048576
returns-then-image-gt1048576 c = search (too_long, rules)

pub returns-then-image-first : goal.returns-then-image-first
returns-then-image-first c = search (too_high, rules)

pub returns-then-out-measure : goal.returns-then-out-measure
returns-then-out-measure c = search (small, rules)

pub returns : goal.returns
returns c = search (done, rules)
