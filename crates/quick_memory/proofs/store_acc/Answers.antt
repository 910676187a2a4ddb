use Rattle.quick_memory.proofs.Laws.{store_acc_is}
use borrow.Author.Rules.{rules}
use Rattle.quick_memory.proofs.store_acc.Goals as goal

pub returns : goal.returns
returns c = search (store_acc_is, rules)
