use Rattle.hex_line.proofs.Laws.{all_none, digits_more}
use borrow.Author.Rules.{rules}
use Rattle.hex_line.proofs.digits_to.Goals as goal

pub loop-i-init : goal.loop-i-init
loop-i-init c = all_none _

pub loop-i-preserved : goal.loop-i-preserved
loop-i-preserved c = search (digits_more, rules)
