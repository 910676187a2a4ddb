use Rattle.hex_put.proofs.Laws.{filled}
use borrow.Author.Rules.{rules}
use Rattle.hex_put.proofs.fill.Goals as goal

pub returns : goal.returns
returns c = search (filled, rules)
