use Rattle.quick_do.proofs.Laws.{alu_to_is}
use borrow.Author.Rules.{rules}
use Rattle.quick_do.proofs.alu_to.Goals as goal

pub returns : goal.returns
returns c = search (alu_to_is, rules)
