use Rattle.quick_memory.proofs.Laws.{alu_rm_is}
use borrow.Author.Rules.{rules}
use Rattle.quick_memory.proofs.alu_rm.Goals as goal

pub returns : goal.returns
returns c = search (alu_rm_is, rules)
