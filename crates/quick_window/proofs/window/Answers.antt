use Rattle.quick_window.proofs.Laws.{in_ram, in_rom}
use borrow.Author.Rules.{rules}
use Rattle.quick_window.proofs.window.Goals as goal

pub returns-then-a-ram : goal.returns-then-a-ram
returns-then-a-ram c = in_ram _ _ _ _ _ _ c.address-a.ensures (search rules) (search rules) (search rules) c.eight.ensures

pub returns-then-a-rom-ge1048576 : goal.returns-then-a-rom-ge1048576
returns-then-a-rom-ge1048576 c = in_rom _ _ _ _ _ _ c.address-a.ensures (search rules) (search rules) (search rules) (search rules) c.eight-then-a-rom-ge1048576.ensures
