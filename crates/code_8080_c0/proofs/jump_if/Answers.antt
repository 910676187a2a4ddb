use Rattle.code_8080_c0.proofs.Laws.{jump_if_is}
use borrow.Author.Rules.{rules}
use Rattle.code_8080_c0.proofs.jump_if.Goals as goal

pub returns : goal.returns
returns c = search (jump_if_is, rules)
