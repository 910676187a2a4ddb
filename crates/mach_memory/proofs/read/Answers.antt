use Rattle.mach_memory.proofs.Laws.{below_byte, below_word, read_byte, read_word}
use Rattle.std.proofs.Common.{rules}
use Rattle.mach_memory.proofs.read.Goals as goal

pub returns-then-word : goal.returns-then-word
returns-then-word c = search (read_word, below_word, rules)

pub returns : goal.returns
returns c = search (read_byte, below_byte, rules)
