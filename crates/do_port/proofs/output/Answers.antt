use Rattle.do_port.proofs.Laws.{output_is}
use borrow.Author.Rules.{rules}
use Rattle.do_port.proofs.output.Goals as goal

pub returns : goal.returns
returns c = search (output_is, rules)
