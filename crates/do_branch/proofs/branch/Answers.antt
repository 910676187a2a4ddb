use Rattle.mach_tally.proofs.Laws.{sums}
use Rattle.sheet.specs.Branch.{branch}
use Rattle.sheet.proofs.Lifted.{memory_known}
use Rattle.do_branch.proofs.Laws.{jump_known}
use borrow.Author.Rules.{rules}
use Rattle.do_branch.proofs.branch.Goals as goal

pub returns-in-CallNear : goal.returns-in-CallNear
unfolding branch
returns-in-CallNear c = search (memory_known branch, rules)

pub returns-in-CallTo : goal.returns-in-CallTo
unfolding branch
returns-in-CallTo c = search (memory_known branch, rules)

pub returns-in-CallFar : goal.returns-in-CallFar
unfolding branch
returns-in-CallFar c = search (memory_known branch, rules)

pub returns-in-CallFarAt : goal.returns-in-CallFarAt
unfolding branch
returns-in-CallFarAt c = search (memory_known branch, rules)

pub returns-in-Ret : goal.returns-in-Ret
unfolding branch
returns-in-Ret c = search (memory_known branch, rules)

pub returns-in-RetPop : goal.returns-in-RetPop
unfolding branch
returns-in-RetPop c = search (memory_known branch, rules)

pub returns-in-RetFar : goal.returns-in-RetFar
unfolding branch
returns-in-RetFar c = search (memory_known branch, rules)

pub returns-in-RetFarPop : goal.returns-in-RetFarPop
unfolding branch
returns-in-RetFarPop c = search (memory_known branch, rules)

pub returns-in-BrNear : goal.returns-in-BrNear
unfolding branch
returns-in-BrNear c = search (jump_known, sums, rules)

pub returns-in-BrTo : goal.returns-in-BrTo
unfolding branch
returns-in-BrTo c = search (memory_known branch, rules)

pub returns-in-BrFar : goal.returns-in-BrFar
unfolding branch
returns-in-BrFar c = search (jump_known, sums, rules)

pub returns-in-BrFarAt : goal.returns-in-BrFarAt
unfolding branch
returns-in-BrFarAt c = search (memory_known branch, rules)
