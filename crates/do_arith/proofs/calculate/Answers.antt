use Rattle.sheet.specs.Arithmetic.{calculate}
use Rattle.sheet.proofs.Lifted.{memory_known}
use borrow.Author.Rules.{rules}
use Rattle.do_arith.proofs.calculate.Goals as goal

pub returns-in-Two : goal.returns-in-Two
unfolding calculate
returns-in-Two c = search (memory_known calculate, rules)

pub returns-in-One : goal.returns-in-One
unfolding calculate
returns-in-One c = search (memory_known calculate, rules)

pub returns-in-Test : goal.returns-in-Test
unfolding calculate
returns-in-Test c = search (memory_known calculate, rules)
