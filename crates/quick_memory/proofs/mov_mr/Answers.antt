use Rattle.quick_memory.proofs.Laws.{mov_mr_is}
use borrow.Author.Rules.{rules}
use Rattle.quick_memory.proofs.mov_mr.Goals as goal

pub returns : goal.returns
returns c = search (mov_mr_is, rules)
