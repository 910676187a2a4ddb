use Rattle.step_calls.proofs.Laws.{accepts}
use borrow.Author.Rules.{rules}
use Rattle.step_calls.proofs.accept.Goals as goal

pub returns : goal.returns
returns c = search (accepts, rules)
