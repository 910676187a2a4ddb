use Rattle.quick_do.proofs.Laws.{alu_rr_is}
use borrow.Author.Rules.{rules}
use Rattle.quick_do.proofs.alu_rr.Goals as goal

pub returns : goal.returns
returns c = search (alu_rr_is, rules)
