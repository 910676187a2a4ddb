-- One character of a line. Assumes nothing.
use Prim.Native.Nat.{ℕ, ◌+◌, ◌-◌, ◌*◌, ◌%◌, ◌≤◌, ◌<◌}
use mathlib.Core.Path.{◌≡◌, refl}
use mathlib.Core.Bool.{Bool, true, false, ◌&&◌, and-eq-true_iff, true≢false}
use mathlib.Core.List.{List, ◌∷◌}
use native.Mathlib.Omega.{arith}
use borrow.Author.Tests.{lt-ltb, le-ltb, ne_eqb}
use Rattle.sheet.specs.Width.{pick, odd}
use Rattle.rom_form.specs.Restored.{digit_of, is_digit, restored_from}
use Rattle.rom_list.specs.Restores.{ends_byte, high_after}

-- ---- digits

module _ (c : ℕ) where
  pub below_digits : c < 48 → 0 ≡ digit_of c
  unfolding digit_of
  below_digits h = rw (lt-ltb c 58 (omega arith)) (omega arith)

  pub decimal_digit : 48 ≤ c → c ≤ 57 → c - 48 ≡ digit_of c
  unfolding digit_of
  decimal_digit h k = rw (lt-ltb c 58 (omega arith)) (omega arith)

  pub letter_digit : 57 < c → (c - 55) % 16 ≡ digit_of c
  unfolding digit_of
  letter_digit h = rw (le-ltb c 58 (omega arith))

  digit_small : digit_of c < 16
  unfolding digit_of
  digit_small = omega arith

  pub digit_bound : {r : ℕ} → r ≡ digit_of c → r < 16
  digit_bound e = rw e digit_small

-- ---- the digit that was read last

module _ (column c : ℕ) (d : Bool) (e : d ≡ is_digit column c) where
  module _ (high : ℕ) where
    pub digit_kept : (r : ℕ) → r ≡ digit_of c → d ≡ true → r ≡ high_after column high c
    unfolding high_after
    digit_kept r q h = rw (← e, h) q

    pub no_digit_keeps : d ≡ false → high ≡ high_after column high c
    unfolding high_after
    no_digit_keeps h = rw (← e, h)

pub high_small : (column high c : ℕ) → high < 16 → high_after column high c < 16
unfolding high_after
high_small column high c h = go (is_digit column c)
  where
    go : (d : Bool) → pick d (digit_of c) high < 16
    go true = digit_small c
    go false = h

-- ---- what is restored

module _ (column high c : ℕ) (t : List ℕ) where
  pub line_end_read : c ≡ 10 → restored_from column high (c ∷ t) ≡ restored_from 0 0 t
  unfolding restored_from
  line_end_read h = rw h

  module _ (n : c ≡ 10 → ⊥) where
    pub second_read : ends_byte column c ≡ true → restored_from column high (c ∷ t) ≡ (16 * high + digit_of c) ∷ restored_from (column + 1) 0 t
    unfolding restored_from ends_byte
    second_read e = let (d, o) = (and-eq-true_iff (is_digit column c) (odd column)).0 e in rw (ne_eqb c 10 n, d, o)

    pub other_read : ends_byte column c ≡ false → restored_from column high (c ∷ t) ≡ restored_from (column + 1) (high_after column high c) t
    unfolding restored_from ends_byte high_after
    other_read e = rw (ne_eqb c 10 n) (go (is_digit column c) (odd column) e)
      where
        go : (d o : Bool) → (d && o) ≡ false
            → pick d (pick o ((16 * high + digit_of c) ∷ restored_from (column + 1) 0 t) (restored_from (column + 1) (digit_of c) t)) (restored_from (column + 1) high t)
            ≡ restored_from (column + 1) (pick d (digit_of c) high) t
        go true true z = absurd (true≢false z)
        go true false z = refl
        go false o z = refl
