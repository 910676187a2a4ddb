use mathlib.Core.Path.{◌≡◌}
use Rattle.hex_form.specs.Line.{all, digit_at}
use Rattle.hex_line.proofs.digits_to.Given as goal

abbrev pub invariant-loop-i : goal.invariant-loop-i
invariant-loop-i l = l.digits ≡ all (digit_at l.s) l.i
