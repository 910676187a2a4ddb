use Rattle.do_convert.proofs.Laws.{cvtdb_is}
use borrow.Author.Rules.{rules}
use Rattle.do_convert.proofs.cvtdb.Goals as goal

pub returns : goal.returns
returns c = search (cvtdb_is, rules)
