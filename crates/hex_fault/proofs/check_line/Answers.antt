use Rattle.hex_fault.proofs.Laws.{unformed, unsummed, outside, faultless}
use borrow.Author.Rules.{rules}
use Rattle.hex_fault.proofs.check_line.Goals as goal

pub returns-then-not-is_formed : goal.returns-then-not-is_formed
returns-then-not-is_formed c = search (unformed, rules)

pub returns-then-not-is_summed : goal.returns-then-not-is_summed
returns-then-not-is_summed c = search (unsummed, rules)

pub returns-then-not-does_land : goal.returns-then-not-does_land
returns-then-not-does_land c = search (outside, rules)

pub returns : goal.returns
returns c = search (faultless, rules)
