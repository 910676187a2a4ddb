use mathlib.Core.Path.{◌≡◌}
use Rattle.hex_form.specs.Line.{sum, byte}
use Rattle.hex_line.proofs.sum_to.Given as goal

abbrev pub invariant-loop-i : goal.invariant-loop-i
invariant-loop-i l = l.sum ≡ sum (byte l.s) l.i
