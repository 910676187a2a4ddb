use Rattle.mach_tally.proofs.Laws.{sums}
use Rattle.engine.proofs.PlainLaws.{at_file}
use Rattle.sheet.proofs.Lifted.{memory_known}
use Rattle.sheet.specs.Execute.{moving}
use borrow.Author.Rules.{rules}
use Rattle.engine.proofs.plain.moves.Goals as goal

pub returns-in-Transfers : goal.returns-in-Transfers
unfolding moving
returns-in-Transfers c = search (memory_known moving, rules)

pub returns-in-Stacks : goal.returns-in-Stacks
unfolding moving
returns-in-Stacks c = search (memory_known moving, rules)

pub returns-in-Branches : goal.returns-in-Branches
unfolding moving
returns-in-Branches c = search (memory_known moving, rules)

pub returns-in-Tests : goal.returns-in-Tests
unfolding moving
returns-in-Tests c = search (at_file moving, sums, rules)
