use mathlib.Core.Logic.{inl, inr}
use Rattle.sheet.proofs.Lifted.{memory_known}
use Rattle.sheet.specs.Multiply.{multiply}
use Rattle.do_multiply.proofs.Laws.{product_known}
use borrow.Author.Rules.{rules}
use Rattle.do_multiply.proofs.multiply.Goals as goal

pub returns-in-Mulu : goal.returns-in-Mulu
unfolding multiply
returns-in-Mulu c = search (product_known, rules)

pub returns-in-Mul : goal.returns-in-Mul
unfolding multiply
returns-in-Mul c = search (product_known, rules)

pub returns-in-MulByte : goal.returns-in-MulByte
unfolding multiply
returns-in-MulByte c = elim c.in-MulByte.is [ inl e ↦ search (product_known, rules) | inr e ↦ search (product_known, rules) ]

pub returns-in-Divu : goal.returns-in-Divu
unfolding multiply
returns-in-Divu c = search (memory_known multiply, rules)

pub returns-in-Div : goal.returns-in-Div
unfolding multiply
returns-in-Div c = search (memory_known multiply, rules)
