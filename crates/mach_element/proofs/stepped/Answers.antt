use Rattle.mach_element.proofs.Laws.{stepped_down, stepped_up}
use borrow.Author.Rules.{rules}
use Rattle.mach_element.proofs.stepped.Goals as goal

pub returns-then-down : goal.returns-then-down
returns-then-down c = search (stepped_down, rules)

pub returns : goal.returns
returns c = search (stepped_up, rules)
