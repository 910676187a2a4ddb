use Rattle.do_multiply.proofs.Laws.{product_of_bytes, product_of_words}
use borrow.Author.Rules.{rules}
use Rattle.do_multiply.proofs.set_product.Goals as goal

pub returns-then-word : goal.returns-then-word
returns-then-word c = search (product_of_words, rules)

pub returns-else-word : goal.returns-else-word
returns-else-word c = search (product_of_bytes, rules)
