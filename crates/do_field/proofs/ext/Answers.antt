use Rattle.do_field.proofs.Laws.{ext_is}
use borrow.Author.Rules.{rules}
use Rattle.do_field.proofs.ext.Goals as goal

pub returns : goal.returns
returns c = search (ext_is, rules)
