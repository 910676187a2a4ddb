use Rattle.do_convert.proofs.Laws.{cvtbw_is}
use borrow.Author.Rules.{rules}
use Rattle.do_convert.proofs.cvtbw.Goals as goal

pub returns : goal.returns
returns c = search (cvtbw_is, rules)
