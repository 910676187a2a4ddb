use Rattle.do_mode.proofs.Laws.{retem_is}
use borrow.Author.Rules.{rules}
use Rattle.do_mode.proofs.retem.Goals as goal

pub returns : goal.returns
returns c = search (retem_is, rules)
