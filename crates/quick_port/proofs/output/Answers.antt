use Rattle.quick_port.proofs.Laws.{out_is}
use borrow.Author.Rules.{rules}
use Rattle.quick_port.proofs.output.Goals as goal

pub returns : goal.returns
returns c = search (out_is, rules)
