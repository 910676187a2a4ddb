use Rattle.code_8080_00.proofs.Laws.{inr_is}
use borrow.Author.Rules.{rules}
use Rattle.code_8080_00.proofs.inr.Goals as goal

pub returns : goal.returns
returns c = search (inr_is, rules)
