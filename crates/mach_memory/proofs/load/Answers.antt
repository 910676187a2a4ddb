use Rattle.mach_memory.proofs.Laws.{loads}
use Rattle.std.proofs.Common.{rules}
use Rattle.mach_memory.proofs.load.Goals as goal

pub returns : goal.returns
returns c = search (loads, rules)
