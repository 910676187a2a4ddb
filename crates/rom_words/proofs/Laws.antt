-- The words of a primitive that is known to be another.
use Prim.Native.Nat.{ℕ}
use mathlib.Core.Path.{◌≡◌}
use mathlib.Core.Bool.{Bool}
use mathlib.Core.List.{List, ◌++◌}
use Rattle.sheet.specs.declared.Primitive.{Primitive}
use Rattle.base_line.specs.Adds.{Adds}
use Rattle.base_line.proofs.Laws.{adds_known, then}
use Rattle.rom_mnemonic.specs.Mnemonics.{primitive_text}

pub primitive_known : {p q : Primitive} (w : Bool) (seg : ℕ) {line line' : List ℕ} → p ≡ q → Adds (primitive_text q w seg) line line' → Adds (primitive_text p w seg) line line'
primitive_known w seg = adds_known (λ k. primitive_text k w seg)

-- a name that is known to be another, and behind it y
pub named_then : {x x' y line line' line'' : List ℕ} → x ≡ x' → Adds x line line' → Adds y line' line'' → Adds (x' ++ y) line line''
named_then e a b = rw (← e) (then a b)
