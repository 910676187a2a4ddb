use Rattle.rom_list.proofs.Characters.{below_digits, decimal_digit, letter_digit}
use borrow.Author.Rules.{rules}
use borrow.Author.Rules.{rules}
use Rattle.rom_list.proofs.rebuild.digit.Goals as goal

pub returns-then-c-lt48 : goal.returns-then-c-lt48
returns-then-c-lt48 c = search (below_digits, rules)

pub returns-then-c-le57 : goal.returns-then-c-le57
returns-then-c-le57 c = search (decimal_digit, rules)

pub returns-else-c-le57 : goal.returns-else-c-le57
returns-else-c-le57 c = search (letter_digit, rules)
