use Rattle.hex_read.proofs.Storing.{none_stored, one_more_stored}
use borrow.Author.Rules.{rules}
use Rattle.hex_read.proofs.store_to.Goals as goal

pub loop-i-init : goal.loop-i-init
loop-i-init c = none_stored _ _ _

pub loop-i-preserved : goal.loop-i-preserved
loop-i-preserved c = search (one_more_stored, rules)
