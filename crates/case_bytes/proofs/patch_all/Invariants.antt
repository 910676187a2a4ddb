-- So many patches are made.
use Rattle.std.proofs.Common.{◌≡◌}
use Rattle.case_bytes.specs.Buffers.{patched}
use Rattle.case_bytes.proofs.patch_all.Given as goal

abbrev pub invariant-loop-i : goal.invariant-loop-i
invariant-loop-i l = l.buffer ≡ patched l.kind l.patches l.i l.initial.buffer
