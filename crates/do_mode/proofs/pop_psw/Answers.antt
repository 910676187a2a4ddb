use Rattle.do_mode.proofs.Laws.{pop_psw_is}
use borrow.Author.Rules.{rules}
use Rattle.do_mode.proofs.pop_psw.Goals as goal

pub returns : goal.returns
returns c = search (pop_psw_is, rules)
