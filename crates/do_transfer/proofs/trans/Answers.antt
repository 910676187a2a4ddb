use Rattle.do_transfer.proofs.Laws.{trans_is}
use borrow.Author.Rules.{rules}
use Rattle.do_transfer.proofs.trans.Goals as goal

pub returns : goal.returns
returns c = search (trans_is, rules)
