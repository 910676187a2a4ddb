use Rattle.do_shift.proofs.Laws.{places_known}
use borrow.Author.Rules.{rules}
use Rattle.do_shift.proofs.shift.Goals as goal

pub returns-in-One : goal.returns-in-One
returns-in-One c = search (places_known, rules)

pub returns-in-Counted : goal.returns-in-Counted
returns-in-Counted c = search (places_known, rules)
