use Rattle.code_8080_00.proofs.Laws.{mvi_is}
use borrow.Author.Rules.{rules}
use Rattle.code_8080_00.proofs.mvi.Goals as goal

pub returns : goal.returns
returns c = search (mvi_is, rules)
