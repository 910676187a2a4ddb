use Rattle.mach_registers.proofs.Laws.{set_base_is}
use borrow.Author.Rules.{rules}
use Rattle.mach_registers.proofs.set_base.Goals as goal

pub returns : goal.returns
returns c = search (set_base_is, rules)
