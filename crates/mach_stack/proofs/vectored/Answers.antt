use Rattle.mach_stack.proofs.Laws.{vectored_is}
use Rattle.mach_stack.proofs.vectored.Goals as goal

pub returns : goal.returns
returns c = vectored_is _ _ _ _ _ _ _ _ _ _ _ _ c.vector-at.ensures c.save-b.ensures c.both.ensures
