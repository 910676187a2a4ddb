use Rattle.do_transfer.proofs.Laws.{store_acc_is}
use borrow.Author.Rules.{rules}
use Rattle.do_transfer.proofs.store_acc.Goals as goal

pub returns : goal.returns
returns c = search (store_acc_is, rules)
