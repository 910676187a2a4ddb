use Rattle.quick_memory.proofs.Laws.{load_acc_is}
use borrow.Author.Rules.{rules}
use Rattle.quick_memory.proofs.load_acc.Goals as goal

pub returns : goal.returns
returns c = search (load_acc_is, rules)
