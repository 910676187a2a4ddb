use Rattle.rom_list.proofs.Characters.{digit_kept, no_digit_keeps}
use borrow.Author.Rules.{rules}
use borrow.Author.Rules.{rules}
use Rattle.rom_list.proofs.rebuild.high_after.Goals as goal

pub returns-then-is_digit : goal.returns-then-is_digit
returns-then-is_digit c = search (digit_kept, rules)

pub returns-else-is_digit : goal.returns-else-is_digit
returns-else-is_digit c = search (no_digit_keeps, rules)
