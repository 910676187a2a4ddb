use Prim.Native.Nat.{◌-◌}
use lib.ListN.{length}
use Rattle.hex_write.proofs.Lines.{Putting}
use Rattle.hex_write.proofs.put_lines.Given as goal

abbrev pub invariant-loop-i : goal.invariant-loop-i
invariant-loop-i l = Putting l.base l.image l.initial.out l.out l.at l.g l.i

abbrev pub decreases-loop-i : goal.decreases-loop-i
decreases-loop-i l = length l.image - l.i
