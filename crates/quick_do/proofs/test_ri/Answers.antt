use Rattle.quick_do.proofs.Laws.{test_ri_is}
use borrow.Author.Rules.{rules}
use Rattle.quick_do.proofs.test_ri.Goals as goal

pub returns : goal.returns
returns c = search (test_ri_is, rules)
