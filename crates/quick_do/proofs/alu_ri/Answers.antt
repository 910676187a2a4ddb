use Rattle.quick_do.proofs.Laws.{alu_ri_is}
use borrow.Author.Rules.{rules}
use Rattle.quick_do.proofs.alu_ri.Goals as goal

pub returns : goal.returns
returns c = search (alu_ri_is, rules)
