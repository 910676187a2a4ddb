use mathlib.Core.Path.{◌≡◌}
use Rattle.hex_form.specs.Line.{all}
use Rattle.hex_form.specs.Reading.{lands_in}
use Rattle.hex_fault.proofs.lands_to.Given as goal

abbrev pub invariant-loop-i : goal.invariant-loop-i
invariant-loop-i l = l.lands ≡ all (lands_in l.base l.n l.g l.s) l.i
