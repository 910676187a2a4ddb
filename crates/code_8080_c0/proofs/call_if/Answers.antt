use Rattle.code_8080_c0.proofs.Laws.{call_if_is}
use borrow.Author.Rules.{rules}
use Rattle.code_8080_c0.proofs.call_if.Goals as goal

pub returns : goal.returns
returns c = search (call_if_is, rules)
