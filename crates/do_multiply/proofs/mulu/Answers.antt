use Rattle.sheet.specs.Multiply.{mulu, unsigned_product}
use Rattle.do_multiply.proofs.Laws.{product_is}
use borrow.Author.Rules.{rules}
use Rattle.do_multiply.proofs.mulu.Goals as goal

pub returns : goal.returns
unfolding mulu
returns c = search (product_is unsigned_product, rules)
