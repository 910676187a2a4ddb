use Rattle.do_shift.proofs.Laws.{no_places, some_places}
use borrow.Author.Rules.{rules}
use Rattle.do_shift.proofs.by_count.Goals as goal

pub returns-then-n-lt1 : goal.returns-then-n-lt1
returns-then-n-lt1 c = search (no_places, rules)

pub returns : goal.returns
returns c = search (some_places, rules)
