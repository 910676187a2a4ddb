use Rattle.quick_pack.proofs.Laws.{convert_is}
use borrow.Author.Rules.{rules}
use Rattle.quick_pack.proofs.convert.Goals as goal

pub returns : goal.returns
returns c = search (convert_is, rules)
