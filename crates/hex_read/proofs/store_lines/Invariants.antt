use lib.ListN.{length}
use Prim.Native.Nat.{◌-◌}
use Rattle.hex_read.proofs.Storing.{Storing}
use Rattle.hex_read.proofs.store_lines.Given as goal

abbrev pub invariant-loop-at : goal.invariant-loop-at
invariant-loop-at l = Storing l.base l.text l.initial.image l.image l.at l.segment

abbrev pub decreases-loop-at : goal.decreases-loop-at
decreases-loop-at l = length l.text - l.at
