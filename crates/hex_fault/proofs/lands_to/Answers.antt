use Rattle.hex_line.proofs.Laws.{all_none}
use Rattle.hex_fault.proofs.Laws.{lands_more}
use borrow.Author.Rules.{rules}
use Rattle.hex_fault.proofs.lands_to.Goals as goal

pub loop-i-init : goal.loop-i-init
loop-i-init c = all_none _

pub loop-i-preserved : goal.loop-i-preserved
loop-i-preserved c = search (lands_more, rules)
