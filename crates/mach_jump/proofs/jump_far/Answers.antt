use Rattle.mach_jump.proofs.Laws.{jump_far_is}
use borrow.Author.Rules.{rules}
use Rattle.mach_jump.proofs.jump_far.Goals as goal

pub returns : goal.returns
returns c = search (jump_far_is, rules)
