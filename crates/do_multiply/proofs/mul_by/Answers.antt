use Rattle.do_multiply.proofs.Laws.{mul_by_is}
use borrow.Author.Rules.{rules}
use Rattle.do_multiply.proofs.mul_by.Goals as goal

pub returns : goal.returns
returns c = search (mul_by_is, rules)
