use Rattle.quick_memory.proofs.Laws.{mov_mi_is}
use borrow.Author.Rules.{rules}
use Rattle.quick_memory.proofs.mov_mi.Goals as goal

pub returns : goal.returns
returns c = search (mov_mi_is, rules)
