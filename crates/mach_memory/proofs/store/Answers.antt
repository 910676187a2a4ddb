use Rattle.mach_memory.proofs.Laws.{stores}
use Rattle.std.proofs.Common.{rules}
use Rattle.mach_memory.proofs.store.Goals as goal

pub returns : goal.returns
returns c = search (stores, rules)
