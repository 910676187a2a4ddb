use Rattle.quick_memory.proofs.Laws.{ret_is}
use borrow.Author.Rules.{rules}
use Rattle.quick_memory.proofs.ret.Goals as goal

pub returns : goal.returns
returns c = search (ret_is, rules)
