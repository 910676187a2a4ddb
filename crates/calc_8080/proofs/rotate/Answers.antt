use Rattle.calc_8080.proofs.Laws.{rotate_is}
use borrow.Author.Rules.{rules}
use Rattle.calc_8080.proofs.rotate.Goals as goal

pub returns : goal.returns
returns c = search (rotate_is, rules)
