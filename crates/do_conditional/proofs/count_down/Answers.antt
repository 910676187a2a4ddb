use Rattle.do_conditional.proofs.Laws.{counts}
use borrow.Author.Rules.{rules}
use Rattle.do_conditional.proofs.count_down.Goals as goal

pub returns : goal.returns
returns c = search (counts, rules)
