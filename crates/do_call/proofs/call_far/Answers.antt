use Rattle.do_call.proofs.Laws.{call_far_is}
use borrow.Author.Rules.{rules}
use Rattle.do_call.proofs.call_far.Goals as goal

pub returns : goal.returns
returns c = search (call_far_is, rules)
