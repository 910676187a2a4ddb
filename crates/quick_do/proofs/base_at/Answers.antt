use borrow.Author.Rules.{rules}
use Rattle.quick_do.proofs.Laws.{base_at_lem, base_last}
use Rattle.quick_do.proofs.base_at.Goals as goal

pub returns-in-0 : goal.returns-in-0
returns-in-0 c = (base_at_lem _ 0 (search rules), search rules)

pub returns-in-1 : goal.returns-in-1
returns-in-1 c = (base_at_lem _ 1 (search rules), search rules)

pub returns-in-2 : goal.returns-in-2
returns-in-2 c = (base_at_lem _ 2 (search rules), search rules)

pub returns-in-3 : goal.returns-in-3
returns-in-3 c = (base_at_lem _ 3 (search rules), search rules)

pub returns-in-4 : goal.returns-in-4
returns-in-4 c = (base_at_lem _ 4 (search rules), search rules)

pub returns-in-5 : goal.returns-in-5
returns-in-5 c = (base_at_lem _ 5 (search rules), search rules)

pub returns-in-6 : goal.returns-in-6
returns-in-6 c = (base_at_lem _ 6 (search rules), search rules)

pub returns-in_default : goal.returns-in_default
returns-in_default c = (search (base_last, rules), search rules)
