-- The name of a condition, letter by letter.
use Prim.Native.Nat.{ℕ, ◌+◌, ◌*◌, ◌%◌}
use mathlib.Core.Path.{◌≡◌}
use mathlib.Core.List.{List, [], ◌∷◌}
use borrow.Author.Tests.{eq-eqb, ne_eqb}
use Rattle.base_line.specs.Adds.{Adds}
use Rattle.base_line.proofs.Laws.{then}
use Rattle.rom_mnemonic.specs.Mnemonics.{condition_letter, condition_name}

module _ (n a b c : ℕ) {line line' line'' : List ℕ} (e : a ≡ condition_letter (3 * (n % 16))) (f : b ≡ condition_letter (3 * (n % 16) + 1)) (g : c ≡ condition_letter (3 * (n % 16) + 2))
    (x : Adds (a ∷ []) line line') (y : Adds (b ∷ []) line' line'') where
  pub short_name : c ≡ 32 → Adds (condition_name n) line line''
  unfolding condition_name
  short_name h = rw (← e, ← f, ← g, eq-eqb c 32 h) (then x y)

  pub long_name : (c ≡ 32 → ⊥) → {line''' : List ℕ} → Adds (c ∷ []) line'' line''' → Adds (condition_name n) line line'''
  unfolding condition_name
  long_name h z = rw (← e, ← f, ← g, ne_eqb c 32 h) (then x (then y z))
