use Rattle.mach_element.proofs.Laws.{target_is}
use borrow.Author.Rules.{rules}
use Rattle.mach_element.proofs.target_element.Goals as goal

pub returns : goal.returns
returns c = search (target_is, rules)
