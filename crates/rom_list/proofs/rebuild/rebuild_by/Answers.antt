use Rattle.rom_list.proofs.Rebuilding.{part, part_long, part_restored, part_short, too_long}
use borrow.Author.Rules.{rules}
use Rattle.rom_list.proofs.rebuild.rebuild_by.Goals as goal

pub returns-in-None : goal.returns-in-None
returns-in-None c = search (too_long, rules)

pub slice_bounds-hand_over-end : goal.slice_bounds-hand_over-end
slice_bounds-hand_over-end c = search (part, rules)

pub slice_bounds-hand_over-end-in-Some : goal.slice_bounds-hand_over-end-in-Some
slice_bounds-hand_over-end-in-Some c = search (part_long, rules)

pub hand_over-requires : goal.hand_over-requires
hand_over-requires c = search (part_restored, part_short, rules)
