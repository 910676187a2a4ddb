use Rattle.mach_tally.proofs.Laws.{sums}
use Rattle.mach_operand.proofs.Laws.{source_held, source_immediate}
use borrow.Author.Rules.{rules}
use Rattle.mach_operand.proofs.source_value.Goals as goal

pub returns-in-Held : goal.returns-in-Held
returns-in-Held c = search (source_held, sums, rules)

pub returns-in-Immediate : goal.returns-in-Immediate
returns-in-Immediate c = search (source_immediate, sums, rules)
