use Rattle.quick_pack.proofs.Laws.{product_of}
use borrow.Author.Rules.{rules}
use Rattle.quick_pack.proofs.multiply.Goals as goal

pub returns-in-Mulu : goal.returns-in-Mulu
returns-in-Mulu c = search (product_of, rules)

pub returns-in-Mul : goal.returns-in-Mul
returns-in-Mul c = search (product_of, rules)

pub returns-in-Divu : goal.returns-in-Divu
returns-in-Divu c = search (product_of, rules)

pub returns-in-Div : goal.returns-in-Div
returns-in-Div c = search (product_of, rules)
