use Rattle.quick_perform.proofs.Laws.{performs}
use borrow.Author.Rules.{rules}
use Rattle.quick_perform.proofs.perform.Goals as goal

pub returns : goal.returns
returns c = search (performs, rules)
