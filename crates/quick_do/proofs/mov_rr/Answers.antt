use Rattle.quick_do.proofs.Laws.{mov_rr_is}
use borrow.Author.Rules.{rules}
use Rattle.quick_do.proofs.mov_rr.Goals as goal

pub returns : goal.returns
returns c = search (mov_rr_is, rules)
