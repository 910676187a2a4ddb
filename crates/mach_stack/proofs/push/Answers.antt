use Rattle.mach_stack.proofs.Laws.{push_is}
use borrow.Author.Rules.{rules}
use Rattle.mach_stack.proofs.push.Goals as goal

pub returns : goal.returns
returns c = search (push_is, rules)
