use Rattle.do_convert.proofs.Laws.{adjb_is}
use borrow.Author.Rules.{rules}
use Rattle.do_convert.proofs.adjb.Goals as goal

pub returns : goal.returns
returns c = search (adjb_is, rules)
