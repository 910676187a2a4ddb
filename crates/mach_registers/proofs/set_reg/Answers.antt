use Rattle.mach_registers.proofs.Laws.{set_high, set_low, set_word}
use borrow.Author.Rules.{rules}
use Rattle.mach_registers.proofs.set_reg.Goals as goal

pub returns-then-word : goal.returns-then-word
returns-then-word c = search (set_word, rules)

pub returns-then-n-lt4 : goal.returns-then-n-lt4
returns-then-n-lt4 c = search (set_low, rules)

pub returns : goal.returns
returns c = search (set_high, rules)
