use Rattle.quick_pack.proofs.Laws.{stream_is}
use borrow.Author.Rules.{rules}
use Rattle.quick_pack.proofs.stream.Goals as goal

pub returns-in-WhileZ : goal.returns-in-WhileZ
returns-in-WhileZ c = search (stream_is, rules)
