use Rattle.quick_memory.proofs.Laws.{mov_to_is}
use borrow.Author.Rules.{rules}
use Rattle.quick_memory.proofs.mov_to.Goals as goal

pub returns : goal.returns
returns c = search (mov_to_is, rules)
