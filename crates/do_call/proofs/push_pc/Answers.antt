use Rattle.do_call.proofs.Laws.{push_pc_is}
use borrow.Author.Rules.{rules}
use Rattle.do_call.proofs.push_pc.Goals as goal

pub returns : goal.returns
returns c = search (push_pc_is, rules)
