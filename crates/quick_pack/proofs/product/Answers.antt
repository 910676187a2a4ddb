use Rattle.quick_pack.proofs.Laws.{product_is}
use borrow.Author.Rules.{rules}
use Rattle.quick_pack.proofs.product.Goals as goal

pub returns-in-Register : goal.returns-in-Register
returns-in-Register c = search (product_is, rules)
