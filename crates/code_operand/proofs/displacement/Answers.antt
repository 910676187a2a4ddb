use Rattle.code_operand.proofs.Laws.{displacement_byte, displacement_none, displacement_word}
use borrow.Author.Rules.{rules}
use Rattle.code_operand.proofs.displacement.Goals as goal

pub returns-in-0 : goal.returns-in-0
returns-in-0 c = search (displacement_none, rules)

pub returns-in-1 : goal.returns-in-1
returns-in-1 c = search (displacement_byte, rules)

pub returns-in_default : goal.returns-in_default
returns-in_default c = search (displacement_word, rules)
