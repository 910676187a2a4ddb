use Rattle.engine.proofs.Laws.{next_in}
use borrow.Author.Rules.{rules}
use Rattle.engine.proofs.next.Goals as goal

pub returns : goal.returns
returns c = search (next_in, rules)
