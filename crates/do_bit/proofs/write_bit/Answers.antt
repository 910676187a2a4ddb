use Rattle.do_bit.proofs.Laws.{written_is}
use borrow.Author.Rules.{rules}
use Rattle.do_bit.proofs.write_bit.Goals as goal

pub returns : goal.returns
returns c = search (written_is, rules)
