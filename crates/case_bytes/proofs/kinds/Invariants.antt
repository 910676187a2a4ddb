-- So many kinds are known.
use Rattle.std.proofs.Common.{◌≡◌, true}
use Rattle.case_bytes.specs.Buffers.{kinds_of}
use Rattle.case_bytes.proofs.kinds.Given as goal

abbrev pub invariant-loop-i : goal.invariant-loop-i
invariant-loop-i l = kinds_of l.patches l.i ≡ true
