use Rattle.do_decimal.proofs.Laws.{string_is}
use borrow.Author.Rules.{rules}
use Rattle.do_decimal.proofs.string.Goals as goal

pub returns : goal.returns
returns c = search (string_is, rules)
