use Rattle.quick_memory.proofs.Laws.{load_is}
use borrow.Author.Rules.{rules}
use Rattle.quick_memory.proofs.load.Goals as goal

pub returns : goal.returns
returns c = search (load_is, rules)
