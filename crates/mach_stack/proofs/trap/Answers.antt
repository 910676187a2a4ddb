use Rattle.mach_stack.proofs.Laws.{trap_is}
use borrow.Author.Rules.{rules}
use Rattle.mach_stack.proofs.trap.Goals as goal

pub returns : goal.returns
returns c = search (trap_is, rules)
