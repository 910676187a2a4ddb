use Rattle.do_frame.proofs.Laws.{dispose_is}
use borrow.Author.Rules.{rules}
use Rattle.do_frame.proofs.dispose.Goals as goal

pub returns : goal.returns
returns c = search (dispose_is, rules)
