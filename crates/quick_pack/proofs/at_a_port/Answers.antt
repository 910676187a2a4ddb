use Rattle.quick_pack.proofs.Laws.{in_is, out_is}
use borrow.Author.Rules.{rules}
use Rattle.quick_pack.proofs.at_a_port.Goals as goal

pub returns-in-In : goal.returns-in-In
returns-in-In c = search (in_is, rules)

pub returns-in-Out : goal.returns-in-Out
returns-in-Out c = search (out_is, rules)
