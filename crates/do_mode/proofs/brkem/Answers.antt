use Rattle.do_mode.proofs.Laws.{brkem_is}
use borrow.Author.Rules.{rules}
use Rattle.do_mode.proofs.brkem.Goals as goal

pub returns : goal.returns
returns c = search (brkem_is, rules)
