use mathlib.Core.Path.{refl}
use borrow.Author.Rules.{rules}
use Rattle.sheet.specs.CardPlaces.{operand_at}
use Rattle.code_8080_answer.proofs.CardLaws.{operand_rest}
use Rattle.code_8080_answer.proofs.operand_at.Goals as goal

pub returns-in-0 : goal.returns-in-0
unfolding operand_at
returns-in-0 c = rw c.in-0.is refl

pub returns-in-1 : goal.returns-in-1
unfolding operand_at
returns-in-1 c = rw c.in-1.is refl

pub returns-in-2 : goal.returns-in-2
unfolding operand_at
returns-in-2 c = rw c.in-2.is refl

pub returns-in-3 : goal.returns-in-3
unfolding operand_at
returns-in-3 c = rw c.in-3.is refl

pub returns-in-4 : goal.returns-in-4
unfolding operand_at
returns-in-4 c = rw c.in-4.is refl

pub returns-in-5 : goal.returns-in-5
unfolding operand_at
returns-in-5 c = rw c.in-5.is refl

pub returns-in-6 : goal.returns-in-6
unfolding operand_at
returns-in-6 c = rw c.in-6.is refl

pub returns-in_default : goal.returns-in_default
returns-in_default c = search (operand_rest, rules)
