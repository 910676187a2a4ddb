use Rattle.do_branch.proofs.Laws.{br_to_is}
use borrow.Author.Rules.{rules}
use Rattle.do_branch.proofs.br_to.Goals as goal

pub returns : goal.returns
returns c = search (br_to_is, rules)
