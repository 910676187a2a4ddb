use Rattle.do_convert.proofs.Laws.{adj4_is}
use borrow.Author.Rules.{rules}
use Rattle.do_convert.proofs.adj4.Goals as goal

pub returns : goal.returns
returns c = search (adj4_is, rules)
