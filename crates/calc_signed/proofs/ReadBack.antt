-- A number that fits a width is read back from its bits of that width.
use mathlib.Core.Path.{◌≡◌, refl, ap}
use mathlib.Core.Bool.{Bool, true, false}
use Prim.Native.Nat.{ℕ, zero, suc, ◌-◌, ◌*◌, ◌<◌}
use native.Mathlib.Nat.{not-suc-le-zero}
use native.Mathlib.Omega.{arith}
use borrow.Author.Tests.{ltb-true, ltb-false, lt-ltb, le-ltb}
use lib.Dec.{ltb, lit<}
use lib.IntN.{ℤ, pos, negsuc, ◌-ℤ◌}
use lib.Signed.{mag}
use Rattle.sheet.specs.Width.{half_of, wrap_of, signed_of, bits32}
use Rattle.sheet.specs.Multiply.{bits_of}

pub half_pos : (w : Bool) → 0 < half_of w
half_pos true = lit< tt
half_pos false = lit< tt

pub read_pos : (h n : ℕ) → n < h → signed_of h n ≡ pos n
unfolding signed_of
read_pos h n l = rw (lt-ltb n h l)

pub below_zero : (a b : ℕ) → a < b → pos a -ℤ pos b ≡ negsuc (b - suc a)
below_zero a zero l = absurd (not-suc-le-zero l)
below_zero a (suc b) l = rw (lt-ltb a (suc b) l)

pub read_negsuc : (h n : ℕ) → n < h → signed_of h (2 * h - suc n) ≡ negsuc n
unfolding signed_of
read_negsuc h n l =
    rw (le-ltb (2 * h - suc n) h (omega arith), below_zero (2 * h - suc n) (2 * h) (omega arith)) (ap negsuc (omega arith))

bits_pos : (w : Bool) (n : ℕ) → n < half_of w → bits_of w (pos n) ≡ n
unfolding bits_of bits32 wrap_of
bits_pos true n l = omega arith
bits_pos false n l = omega arith

bits_negsuc : (w : Bool) (n : ℕ) → n < half_of w → bits_of w (negsuc n) ≡ 2 * half_of w - suc n
unfolding bits_of bits32 wrap_of
bits_negsuc true n l = omega arith
bits_negsuc false n l = omega arith

pub bits_read : (w : Bool) (z : ℤ) → mag z < half_of w → signed_of (half_of w) (bits_of w z) ≡ z
bits_read w (pos n) l = rw (bits_pos w n l) (read_pos (half_of w) n l)
bits_read w (negsuc n) l = rw (bits_negsuc w n l) (read_negsuc (half_of w) n l)

-- what a width reads lies within it
pub read_mag : (h x : ℕ) → x < 2 * h → mag (signed_of h x) < h
unfolding signed_of
read_mag h x l = go (ltb x h) refl
  where
    go : (t : Bool) → ltb x h ≡ t → mag (signed_of h x) < h
    go true e = rw e (ltb-true x h e)
    go false e = let k = ltb-false x h e in rw (e, below_zero x (2 * h) l) (omega arith)
