-- So many registers are put in.
use Rattle.std.proofs.Common.{◌≡◌}
use Rattle.case_form.specs.Form.{with_file}
use Rattle.case_form.proofs.put_file.Given as goal

abbrev pub invariant-loop-i : goal.invariant-loop-i
invariant-loop-i l = l.out ≡ with_file l.file l.i l.initial.out
