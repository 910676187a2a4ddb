use Rattle.quick_pack.proofs.Laws.{one_operand}
use borrow.Author.Rules.{rules}
use Rattle.quick_pack.proofs.one.Goals as goal

pub returns : goal.returns
returns c = search (one_operand, rules)
