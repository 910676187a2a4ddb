use Rattle.code_operand.proofs.Laws.{formed_is}
use borrow.Author.Rules.{rules}
use Rattle.code_operand.proofs.formed.Goals as goal

pub returns : goal.returns
returns c = search (formed_is, rules)
