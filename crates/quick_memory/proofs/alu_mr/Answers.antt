use Rattle.quick_memory.proofs.Laws.{alu_mr_is}
use borrow.Author.Rules.{rules}
use Rattle.quick_memory.proofs.alu_mr.Goals as goal

pub returns : goal.returns
returns c = search (alu_mr_is, rules)
