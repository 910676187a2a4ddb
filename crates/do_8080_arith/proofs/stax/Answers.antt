use Rattle.do_8080_arith.proofs.Laws.{stax_is}
use borrow.Author.Rules.{rules}
use Rattle.do_8080_arith.proofs.stax.Goals as goal

pub returns : goal.returns
returns c = search (stax_is, rules)
