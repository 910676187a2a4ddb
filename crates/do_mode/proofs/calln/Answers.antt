use Rattle.do_mode.proofs.Laws.{calln_is}
use borrow.Author.Rules.{rules}
use Rattle.do_mode.proofs.calln.Goals as goal

pub returns : goal.returns
returns c = search (calln_is, rules)
