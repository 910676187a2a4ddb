use Rattle.code_8080_00.proofs.Laws.{dcr_is}
use borrow.Author.Rules.{rules}
use Rattle.code_8080_00.proofs.dcr.Goals as goal

pub returns : goal.returns
returns c = search (dcr_is, rules)
