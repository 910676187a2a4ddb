use Rattle.quick_memory.proofs.Laws.{push_r_is}
use borrow.Author.Rules.{rules}
use Rattle.quick_memory.proofs.push_r.Goals as goal

pub returns : goal.returns
returns c = search (push_r_is, rules)
