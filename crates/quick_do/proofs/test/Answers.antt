use Rattle.quick_do.proofs.Laws.{test_flags}
use borrow.Author.Rules.{rules}
use Rattle.quick_do.proofs.test.Goals as goal

pub returns : goal.returns
returns c = search (test_flags, rules)
