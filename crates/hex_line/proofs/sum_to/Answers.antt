use Rattle.hex_line.proofs.Laws.{sum_none, sum_more}
use borrow.Author.Rules.{rules}
use Rattle.hex_line.proofs.sum_to.Goals as goal

pub loop-i-init : goal.loop-i-init
loop-i-init c = sum_none _

pub loop-i-preserved : goal.loop-i-preserved
loop-i-preserved c = search (sum_more, rules)
