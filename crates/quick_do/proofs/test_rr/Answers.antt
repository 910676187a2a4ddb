use Rattle.quick_do.proofs.Laws.{test_rr_is}
use borrow.Author.Rules.{rules}
use Rattle.quick_do.proofs.test_rr.Goals as goal

pub returns : goal.returns
returns c = search (test_rr_is, rules)
