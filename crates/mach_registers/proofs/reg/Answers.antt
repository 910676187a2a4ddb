use Rattle.mach_registers.proofs.Laws.{read_high, read_low, read_word}
use borrow.Author.Rules.{rules}
use Rattle.mach_registers.proofs.reg.Goals as goal

pub returns-then-word : goal.returns-then-word
returns-then-word c = search (read_word, rules)

pub returns-then-n-lt4 : goal.returns-then-n-lt4
returns-then-n-lt4 c = search (read_low, rules)

pub returns : goal.returns
returns c = search (read_high, rules)
