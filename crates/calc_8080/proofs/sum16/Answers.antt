use Rattle.calc_8080.proofs.Laws.{sum16_is}
use borrow.Author.Rules.{rules}
use Rattle.calc_8080.proofs.sum16.Goals as goal

pub returns : goal.returns
returns c = search (sum16_is, rules)
