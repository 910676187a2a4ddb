use Rattle.code_8080_00.proofs.Laws.{two_is}
use borrow.Author.Rules.{rules}
use Rattle.code_8080_00.proofs.cards10.Goals as goal

pub returns : goal.returns
returns c = search (two_is, rules)
