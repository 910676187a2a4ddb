use Rattle.sheet.specs.Multiply.{mul, signed_product}
use Rattle.do_multiply.proofs.Laws.{product_is}
use borrow.Author.Rules.{rules}
use Rattle.do_multiply.proofs.mul.Goals as goal

pub returns : goal.returns
unfolding mul
returns c = search (product_is signed_product, rules)
