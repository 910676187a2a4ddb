use Rattle.do_call.proofs.Laws.{call_near_is}
use borrow.Author.Rules.{rules}
use Rattle.do_call.proofs.call_near.Goals as goal

pub returns : goal.returns
returns c = search (call_near_is, rules)
