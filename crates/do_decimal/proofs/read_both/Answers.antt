use Rattle.do_decimal.proofs.Laws.{both_are}
use borrow.Author.Rules.{rules}
use Rattle.do_decimal.proofs.read_both.Goals as goal

pub returns : goal.returns
returns c = search (both_are, rules)
