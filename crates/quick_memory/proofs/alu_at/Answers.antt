use Rattle.quick_memory.proofs.Laws.{access_fits, alu_at_is}
use borrow.Author.Rules.{rules}
use Rattle.quick_memory.proofs.alu_at.Goals as goal

pub both-requires : goal.both-requires
both-requires c = search (access_fits, rules)

pub returns : goal.returns
returns c = search (alu_at_is, access_fits, rules)
