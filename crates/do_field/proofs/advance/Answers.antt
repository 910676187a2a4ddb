use Rattle.do_field.proofs.Laws.{advance_is}
use borrow.Author.Rules.{rules}
use Rattle.do_field.proofs.advance.Goals as goal

pub returns : goal.returns
returns c = search (advance_is, rules)
