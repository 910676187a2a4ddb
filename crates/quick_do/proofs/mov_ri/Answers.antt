use Rattle.quick_do.proofs.Laws.{mov_ri_is}
use borrow.Author.Rules.{rules}
use Rattle.quick_do.proofs.mov_ri.Goals as goal

pub returns : goal.returns
returns c = search (mov_ri_is, rules)
