use Rattle.mach_registers.proofs.Laws.{base_is}
use borrow.Author.Rules.{rules}
use Rattle.mach_registers.proofs.base.Goals as goal

pub returns : goal.returns
returns c = search (base_is, rules)
