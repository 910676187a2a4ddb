use Rattle.quick_shift.proofs.Laws.{one_r_is}
use borrow.Author.Rules.{rules}
use Rattle.quick_shift.proofs.one_r.Goals as goal

pub returns : goal.returns
returns c = search (one_r_is, rules)
