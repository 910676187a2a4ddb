use mathlib.Core.Path.{◌≡◌}
use Rattle.hex_form.specs.Reading.{applied, first_stores, store_at}
use Rattle.hex_read.proofs.store_to.Given as goal

abbrev pub invariant-loop-i : goal.invariant-loop-i
invariant-loop-i l = l.image ≡ applied l.base (first_stores (store_at l.g l.s) l.i) l.initial.image
