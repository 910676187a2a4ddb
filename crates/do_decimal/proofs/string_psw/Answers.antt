use Rattle.do_decimal.proofs.Laws.{string_psw_is}
use borrow.Author.Rules.{rules}
use Rattle.do_decimal.proofs.string_psw.Goals as goal

pub returns : goal.returns
returns c = search (string_psw_is, rules)
