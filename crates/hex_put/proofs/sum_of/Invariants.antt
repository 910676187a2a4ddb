use mathlib.Core.Path.{◌≡◌}
use Rattle.hex_form.specs.Line.{sum}
use Rattle.hex_form.specs.Writing.{at}
use Rattle.hex_put.proofs.sum_of.Given as goal

abbrev pub invariant-loop-b : goal.invariant-loop-b
invariant-loop-b l = l.sum ≡ sum (at l.bytes) l.b-index
