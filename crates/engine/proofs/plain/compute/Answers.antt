use Rattle.mach_tally.proofs.Laws.{sums}
use Rattle.engine.proofs.PlainLaws.{at_file}
use Rattle.sheet.specs.Execute.{computing}
use Rattle.sheet.proofs.Lifted.{memory_known}
use borrow.Author.Rules.{rules}
use Rattle.engine.proofs.plain.compute.Goals as goal

pub returns-in-Calculates : goal.returns-in-Calculates
unfolding computing
returns-in-Calculates c = search (memory_known computing, rules)

pub returns-in-Converts : goal.returns-in-Converts
unfolding computing
returns-in-Converts c = search (at_file computing, sums, rules)

pub returns-in-Shifts : goal.returns-in-Shifts
unfolding computing
returns-in-Shifts c = search (memory_known computing, rules)

pub returns-in-Bits : goal.returns-in-Bits
unfolding computing
returns-in-Bits c = search (memory_known computing, rules)

pub returns-in-Decimals : goal.returns-in-Decimals
unfolding computing
returns-in-Decimals c = search (memory_known computing, rules)

pub returns-in-Fields : goal.returns-in-Fields
unfolding computing
returns-in-Fields c = search (memory_known computing, rules)
