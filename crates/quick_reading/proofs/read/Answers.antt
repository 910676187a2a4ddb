use Rattle.quick_reading.proofs.Laws.{means}
use borrow.Author.Rules.{rules}
use Rattle.quick_reading.proofs.read.Goals as goal

pub returns-in-Ok : goal.returns-in-Ok
returns-in-Ok c = search (means, c.in-Ok.ensures, rules)
