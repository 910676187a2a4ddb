use Rattle.code_operand.proofs.Laws.{operands_memory, operands_register}
use borrow.Author.Rules.{rules}
use Rattle.code_operand.proofs.operands.Goals as goal

pub returns-then-m-eq3 : goal.returns-then-m-eq3
returns-then-m-eq3 c = search (operands_register, rules)

pub returns : goal.returns
returns c = search (operands_memory, rules)
