use Rattle.mach_element.proofs.Laws.{goes_back, stays}
use borrow.Author.Rules.{rules}
use Rattle.mach_element.proofs.finish_element.Goals as goal

pub returns-then-on-cw : goal.returns-then-on-cw
returns-then-on-cw c = search (goes_back, rules)

pub returns-else-on-cw : goal.returns-else-on-cw
returns-else-on-cw c = search (stays, rules)
