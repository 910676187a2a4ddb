use Prim.Native.Nat.{◌-◌}
use Rattle.rom_form.specs.Listing.{top}
use Rattle.rom_list.proofs.Laws.{Counting}
use Rattle.rom_list.proofs.measure.Given as goal

-- `rom_list::measure` meets its contract. The loop's invariant is `Counting`.
abbrev pub invariant-loop-a : goal.invariant-loop-a
invariant-loop-a l = Counting l.image l.a l.sum

abbrev pub decreases-loop-a : goal.decreases-loop-a
decreases-loop-a l = top - l.a
