use Rattle.mach_element.proofs.Laws.{set_target_is}
use borrow.Author.Rules.{rules}
use Rattle.mach_element.proofs.set_target.Goals as goal

pub returns : goal.returns
returns c = search (set_target_is, rules)
