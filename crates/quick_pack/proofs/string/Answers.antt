use Rattle.quick_pack.proofs.Laws.{string_is}
use borrow.Author.Rules.{rules}
use Rattle.quick_pack.proofs.string.Goals as goal

pub returns : goal.returns
returns c = search (string_is, rules)
