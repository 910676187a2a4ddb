use Rattle.code_8080_c0.proofs.Laws.{immediate_is}
use borrow.Author.Rules.{rules}
use Rattle.code_8080_c0.proofs.immediate.Goals as goal

pub returns : goal.returns
returns c = search (immediate_is, rules)
