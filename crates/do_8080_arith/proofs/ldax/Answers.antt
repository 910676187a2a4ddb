use Rattle.do_8080_arith.proofs.Laws.{ldax_is}
use borrow.Author.Rules.{rules}
use Rattle.do_8080_arith.proofs.ldax.Goals as goal

pub returns : goal.returns
returns c = search (ldax_is, rules)
