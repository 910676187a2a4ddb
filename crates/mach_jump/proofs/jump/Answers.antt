use Rattle.mach_jump.proofs.Laws.{jump_is}
use borrow.Author.Rules.{rules}
use Rattle.mach_jump.proofs.jump.Goals as goal

pub returns : goal.returns
returns c = search (jump_is, rules)
