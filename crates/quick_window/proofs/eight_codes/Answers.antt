use Rattle.quick_window.proofs.Laws.{eight_is}
use borrow.Author.Rules.{rules}
use Rattle.quick_window.proofs.eight_codes.Goals as goal

pub returns : goal.returns
returns c = search (eight_is, rules)
