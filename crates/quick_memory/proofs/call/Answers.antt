use Rattle.quick_memory.proofs.Laws.{call_is}
use borrow.Author.Rules.{rules}
use Rattle.quick_memory.proofs.call.Goals as goal

pub returns : goal.returns
returns c = search (call_is, rules)
