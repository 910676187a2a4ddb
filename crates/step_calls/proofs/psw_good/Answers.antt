use Rattle.step_calls.proofs.Laws.{psw_good_is}
use borrow.Author.Rules.{rules}
use Rattle.step_calls.proofs.psw_good.Goals as goal

pub returns : goal.returns
returns c = search (psw_good_is, rules)
