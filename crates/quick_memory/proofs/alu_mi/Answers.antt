use Rattle.quick_memory.proofs.Laws.{alu_mi_is}
use borrow.Author.Rules.{rules}
use Rattle.quick_memory.proofs.alu_mi.Goals as goal

pub returns : goal.returns
returns c = search (alu_mi_is, rules)
