-- The laws of decimal and hex numbers, by the tests that the code makes. Assumes nothing.
use mathlib.Core.Path.{◌≡◌, refl, ◌∙◌}
use mathlib.Core.List.{[], ◌∷◌, ◌++◌}
use Prim.Native.Nat.{ℕ, zero, suc, ◌+◌, ◌-◌, ◌/◌, ◌%◌, ◌≤◌, ◌<◌}
use native.Mathlib.Numerals.{add-one, sub-one}
use lib.ListN.{length, length-append}
use borrow.Author.Tests.{lt-ltb, le-ltb}
use Rattle.base_text.specs.Text.{decimal, hex, hex_digit}

pub decimal_none : (n : ℕ) → decimal 0 n ≡ []
unfolding decimal
decimal_none n = refl

pub decimal_last : (k n : ℕ) → (k ≡ 0 → ⊥) → n < 10 → decimal k n ≡ (48 + n) ∷ []
unfolding decimal
decimal_last zero n p h = absurd (p refl)
decimal_last (suc k) n p h = rw (lt-ltb n 10 h)

pub decimal_more : (k n : ℕ) → (k ≡ 0 → ⊥) → 10 ≤ n → decimal k n ≡ decimal (k - 1) (n / 10) ++ ((48 + n % 10) ∷ [])
unfolding decimal
decimal_more zero n p h = absurd (p refl)
decimal_more (suc k) n p h = rw (le-ltb n 10 h, sub-one (suc k))

pub hex_none : (n : ℕ) → hex 0 n ≡ []
unfolding hex
hex_none n = refl

pub hex_more : (w n : ℕ) → (w ≡ 0 → ⊥) → hex w n ≡ hex (w - 1) (n / 16) ++ (hex_digit (n % 16) ∷ [])
unfolding hex
hex_more zero n p = absurd (p refl)
hex_more (suc w) n p = rw (sub-one (suc w))

pub hex_length : (w n : ℕ) → length (hex w n) ≡ w
unfolding hex
hex_length zero n = refl
hex_length (suc w) n = length-append (hex w (n / 16)) (hex_digit (n % 16) ∷ []) ∙ rw (hex_length w (n / 16)) (add-one w)
