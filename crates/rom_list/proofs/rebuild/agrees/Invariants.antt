use Prim.Native.Nat.{◌-◌}
use Rattle.rom_form.specs.Listing.{top}
use Rattle.rom_list.proofs.Agreeing.{Agreeing}
use Rattle.rom_list.proofs.rebuild.agrees.Given as goal

-- `rom_list::rebuild::agrees` meets its contract. The loop's invariant is `Agreeing`.
abbrev pub invariant-loop-a : goal.invariant-loop-a
invariant-loop-a l = Agreeing l.lines l.image l.a l.at

abbrev pub decreases-loop-a : goal.decreases-loop-a
decreases-loop-a l = top - l.a
