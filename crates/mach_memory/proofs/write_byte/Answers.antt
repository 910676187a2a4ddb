use Rattle.mach_memory.proofs.Laws.{landed, dropped}
use Rattle.std.proofs.Common.{rules}
use Rattle.mach_memory.proofs.write_byte.Goals as goal

pub returns-then-a-ram : goal.returns-then-a-ram
returns-then-a-ram c = search (landed, rules)

pub returns : goal.returns
returns c = search (dropped, rules)
