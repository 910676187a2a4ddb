use Rattle.mach_element.proofs.Laws.{step_below, step_beyond}
use borrow.Author.Rules.{rules}
use Rattle.mach_element.proofs.step_index.Goals as goal

pub returns-then-index-lt-PSW : goal.returns-then-index-lt-PSW
returns-then-index-lt-PSW c = search (step_below, rules)

pub returns-else-index-lt-PSW : goal.returns-else-index-lt-PSW
returns-else-index-lt-PSW c = search (step_beyond, rules)
