use Prim.Native.Nat.{◌-◌}
use lib.ListN.{length}
use Rattle.hex_write.proofs.Lines.{Measuring}
use Rattle.hex_write.proofs.measure.Given as goal

abbrev pub invariant-loop-i : goal.invariant-loop-i
invariant-loop-i l = Measuring l.base l.image l.len l.g l.i

abbrev pub decreases-loop-i : goal.decreases-loop-i
decreases-loop-i l = length l.image - l.i
