use Rattle.mach_memory.proofs.Laws.{write_byte, write_word}
use Rattle.std.proofs.Common.{rules}
use Rattle.mach_memory.proofs.write.Goals as goal

pub returns-then-word : goal.returns-then-word
returns-then-word c = search (write_word, rules)

pub returns : goal.returns
returns c = search (write_byte, rules)
