use Rattle.quick_memory.proofs.Laws.{one_m_is, store_fits}
use borrow.Author.Rules.{rules}
use Rattle.quick_memory.proofs.one_m.Goals as goal

pub both-requires : goal.both-requires
both-requires c = search (store_fits, rules)

pub returns : goal.returns
returns c = search (one_m_is, store_fits, rules)
