use Rattle.do_convert.proofs.Laws.{cvtbd_is}
use borrow.Author.Rules.{rules}
use Rattle.do_convert.proofs.cvtbd.Goals as goal

pub returns : goal.returns
returns c = search (cvtbd_is, rules)
