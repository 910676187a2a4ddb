use Rattle.quick_do.proofs.Laws.{br_is}
use borrow.Author.Rules.{rules}
use Rattle.quick_do.proofs.br.Goals as goal

pub returns : goal.returns
returns c = search (br_is, rules)
