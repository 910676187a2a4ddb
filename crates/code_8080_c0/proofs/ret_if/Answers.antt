use Rattle.code_8080_c0.proofs.Laws.{ret_if_is}
use borrow.Author.Rules.{rules}
use Rattle.code_8080_c0.proofs.ret_if.Goals as goal

pub returns : goal.returns
returns c = search (ret_if_is, rules)
