use Rattle.mach_element.proofs.Laws.{source_is}
use borrow.Author.Rules.{rules}
use Rattle.mach_element.proofs.source_element.Goals as goal

pub returns : goal.returns
returns c = search (source_is, rules)
