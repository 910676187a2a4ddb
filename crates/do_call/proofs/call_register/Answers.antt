use Rattle.do_call.proofs.Laws.{call_register_is}
use borrow.Author.Rules.{rules}
use Rattle.do_call.proofs.call_register.Goals as goal

pub returns : goal.returns
returns c = search (call_register_is, rules)
