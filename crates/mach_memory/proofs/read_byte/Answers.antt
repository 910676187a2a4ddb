use Rattle.mach_memory.proofs.Laws.{byte_at_none, byte_at_ram, byte_at_rom}
use Rattle.std.proofs.Common.{rules}
use Rattle.mach_memory.proofs.read_byte.Goals as goal

pub returns-then-a-ram : goal.returns-then-a-ram
returns-then-a-ram c = search (byte_at_ram, rules)

pub returns-then-a-rom-ge1048576 : goal.returns-then-a-rom-ge1048576
returns-then-a-rom-ge1048576 c = search (byte_at_rom, rules)

pub returns : goal.returns
returns c = search (byte_at_none, rules)
