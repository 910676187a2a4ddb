use Rattle.mach_operand.proofs.Laws.{value_is}
use borrow.Author.Rules.{rules}
use Rattle.mach_operand.proofs.value_at.Goals as goal

pub returns : goal.returns
returns c = search (value_is, rules)
