use Rattle.do_8080_arith.proofs.Laws.{two_is}
use borrow.Author.Rules.{rules}
use Rattle.do_8080_arith.proofs.two.Goals as goal

pub returns : goal.returns
returns c = search (two_is, rules)
