use Rattle.do_multiply.proofs.Laws.{multiplied_is}
use borrow.Author.Rules.{rules}
use Rattle.do_multiply.proofs.multiplied.Goals as goal

pub returns : goal.returns
returns c = search (multiplied_is, rules)
