use Rattle.step_end.proofs.Laws.{finishes_traced, finishes_untraced}
use borrow.Author.Rules.{rules}
use Rattle.step_end.proofs.finish.Goals as goal

pub returns-then-traced : goal.returns-then-traced
returns-then-traced c = search (finishes_traced, rules)

pub returns-else-traced : goal.returns-else-traced
returns-else-traced c = search (finishes_untraced, rules)
