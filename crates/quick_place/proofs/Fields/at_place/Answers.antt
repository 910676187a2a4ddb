use Rattle.std.proofs.Common.{rules}
use Rattle.quick_place.proofs.Laws.{in_register, in_memory_lem}
use Rattle.quick_place.proofs.Fields.at_place.Goals as goal

pub returns-in-Register : goal.returns-in-Register
returns-in-Register c = search (in_register, rules)

pub returns-in-Memory : goal.returns-in-Memory
returns-in-Memory c = search (in_memory_lem, rules)
