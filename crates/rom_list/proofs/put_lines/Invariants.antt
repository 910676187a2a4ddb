use Prim.Native.Nat.{◌-◌}
use Rattle.rom_form.specs.Listing.{top}
use Rattle.rom_list.proofs.Laws.{Writing}
use Rattle.rom_list.proofs.put_lines.Given as goal

-- `rom_list::put_lines` meets its contract. The loop's invariant is `Writing`.
abbrev pub invariant-loop-a : goal.invariant-loop-a
invariant-loop-a l = Writing l.image l.initial.out l.a l.at l.out

abbrev pub decreases-loop-a : goal.decreases-loop-a
decreases-loop-a l = top - l.a
