-- So many registers are read.
use Rattle.std.proofs.Common.{◌≡◌}
use Rattle.case_form.specs.Form.{file_of}
use Rattle.case_form.proofs.file_of.Given as goal

abbrev pub invariant-loop-i : goal.invariant-loop-i
invariant-loop-i l = l.file ≡ file_of l.header l.i
