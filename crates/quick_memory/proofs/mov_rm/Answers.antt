use Rattle.quick_memory.proofs.Laws.{mov_rm_is}
use borrow.Author.Rules.{rules}
use Rattle.quick_memory.proofs.mov_rm.Goals as goal

pub returns : goal.returns
returns c = search (mov_rm_is, rules)
