use Rattle.quick_pack.proofs.Laws.{call_near, ret_near, br_near, br_short, br_far}
use borrow.Author.Rules.{rules}
use Rattle.quick_pack.proofs.branch.Goals as goal

pub returns-in-CallNear : goal.returns-in-CallNear
returns-in-CallNear c = search (call_near, rules)

pub returns-in-Ret : goal.returns-in-Ret
returns-in-Ret c = search (ret_near, rules)

pub returns-in-BrNear : goal.returns-in-BrNear
returns-in-BrNear c = search (br_near, rules)

pub returns-in-BrShort : goal.returns-in-BrShort
returns-in-BrShort c = search (br_short, rules)

pub returns-in-BrFar : goal.returns-in-BrFar
returns-in-BrFar c = search (br_far, rules)
