use Rattle.quick_memory.proofs.Laws.{pop_r_is}
use borrow.Author.Rules.{rules}
use Rattle.quick_memory.proofs.pop_r.Goals as goal

pub returns : goal.returns
returns c = search (pop_r_is, rules)
