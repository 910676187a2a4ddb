use Rattle.do_convert.proofs.Laws.{cvtwl_is}
use borrow.Author.Rules.{rules}
use Rattle.do_convert.proofs.cvtwl.Goals as goal

pub returns : goal.returns
returns c = search (cvtwl_is, rules)
