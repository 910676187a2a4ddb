use Rattle.mach_stack.proofs.Laws.{pop_is}
use borrow.Author.Rules.{rules}
use Rattle.mach_stack.proofs.pop.Goals as goal

pub returns : goal.returns
returns c = search (pop_is, rules)
