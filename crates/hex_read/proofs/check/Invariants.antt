use lib.ListN.{length}
use Prim.Native.Nat.{◌-◌}
use Rattle.hex_read.proofs.Checking.{Checking}
use Rattle.hex_read.proofs.check.Given as goal

abbrev pub invariant-loop-at : goal.invariant-loop-at
invariant-loop-at l = Checking l.base l.n l.text l.at l.segment l.line

abbrev pub decreases-loop-at : goal.decreases-loop-at
decreases-loop-at l = length l.text - l.at
