use Rattle.do_conditional.proofs.Laws.{jumps, stays}
use borrow.Author.Rules.{rules}
use Rattle.do_conditional.proofs.jump_if.Goals as goal

pub returns-then-b : goal.returns-then-b
returns-then-b c = search (jumps, rules)

pub returns-else-b : goal.returns-else-b
returns-else-b c = search (stays, rules)
