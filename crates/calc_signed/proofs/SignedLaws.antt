-- What the machine reads back from the bits of a signed number of 64 bits, and the range of signed readings.
use mathlib.Core.Path.{◌≡◌, refl, sym, ap, ◌∙◌}
use mathlib.Core.Bool.{Bool, true, false}
use Prim.Native.Nat.{ℕ, zero, suc, ◌-◌, ◌*◌, ◌%◌, ◌^◌, ◌≤◌, ◌<◌}
use native.Mathlib.Omega.{arith}
use borrow.Author.Tests.{ltb-true, le-ltb, lt-ltb}
use lib.Dec.{ltb}
use lib.IntN.{ℤ, pos, negsuc, neg_ℤ, nat_abs, sub_ℕ, ◌-ℤ◌, pos-ne-negsuc}
use lib.Signed.{mag, lt_z}
use mir.Syntax.{w64}
use mir.Val.{to_z, of_z, SFits}
use mir.ValLaws.{to_z_pos, to_z-of_z}
use Rattle.sheet.specs.Width.{signed_of, bits32}

-- a number that was cast from an unsigned type is that number
pub reads_pos : (n : ℕ) → n < 2 ^ 63 → to_z w64 n ≡ pos n
reads_pos n h = to_z_pos w64 n h

-- what is read back from a result
pub passes : {q z : ℤ} → q ≡ z → SFits w64 z → to_z w64 (of_z w64 q) ≡ z
passes {z = z} e h = ap (λ (y : ℤ). to_z w64 (of_z w64 y)) e ∙ to_z-of_z w64 z h

pub mag_neg : (r : ℕ) → mag (neg_ℤ (pos r)) ≤ r
mag_neg zero = omega arith
mag_neg (suc r) = omega arith

-- ---- differences

mag_sub : (a b k : ℕ) → a < k → b ≤ k → mag (sub_ℕ a b) < k
mag_sub a b k ha hb = go (ltb a b) refl
  where
    go : (t : Bool) → ltb a b ≡ t → mag (sub_ℕ a b) < k
    go true e = rw e (omega (arith, ltb-true a b e))
    go false e = rw e (omega arith)

pub mag_diff : (a b k : ℕ) → a < k → b ≤ k → mag (pos a -ℤ pos b) < k
mag_diff a zero k ha hb = omega arith
mag_diff a (suc b) k ha hb = mag_sub a (suc b) k ha hb

pub diff_fits : (a b : ℕ) → a < 2 ^ 40 → b < 2 ^ 40 → SFits w64 (pos a -ℤ pos b)
diff_fits a b ha hb = record { sfits = mag_diff a b (2 ^ 63) (omega arith) (omega arith) }

-- ---- the range of a signed reading, and that only 0 reads as 0

pub signed_lt : (h x k : ℕ) → x < k → 2 * h ≤ k → mag (signed_of h x) < k
unfolding signed_of
signed_lt h x k hx hh = go (ltb x h) refl
  where
    go : (t : Bool) → ltb x h ≡ t → mag (signed_of h x) < k
    go true e = rw e hx
    go false e = rw e (mag_diff x (2 * h) k hx hh)

pub signed_fits : (h x : ℕ) → x < 2 ^ 40 → h < 2 ^ 40 → SFits w64 (signed_of h x)
signed_fits h x hx hh = record { sfits = signed_lt h x (2 ^ 63) (omega arith) (omega arith) }

diff_nz : (a b : ℕ) → a < b → pos a -ℤ pos b ≡ pos 0 → ⊥
diff_nz a zero h e = omega arith
diff_nz a (suc b) h e = pos-ne-negsuc 0 _ (sym (rw (lt-ltb a (suc b) h) at e))

pub signed_nz : (h x : ℕ) → x < 2 * h → (x ≡ 0 → ⊥) → signed_of h x ≡ pos 0 → ⊥
unfolding signed_of
signed_nz h x hx z = go (ltb x h) refl
  where
    go : (t : Bool) → ltb x h ≡ t → signed_of h x ≡ pos 0 → ⊥
    go true e p = z (ap nat_abs (rw e at p))
    go false e p = diff_nz x (2 * h) hx (rw e at p)
