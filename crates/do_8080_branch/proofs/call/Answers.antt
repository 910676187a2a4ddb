use Rattle.do_8080_branch.proofs.Laws.{call_is}
use borrow.Author.Rules.{rules}
use Rattle.do_8080_branch.proofs.call.Goals as goal

pub returns : goal.returns
returns c = search (call_is, rules)
