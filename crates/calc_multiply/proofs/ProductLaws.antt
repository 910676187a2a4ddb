-- Products: their range, that the lower half holds one that does not exceed it, and that twice the width holds every one.
use mathlib.Core.Path.{◌≡◌, refl, sym, ◌∙◌}
use mathlib.Core.Bool.{Bool, true, false, ◌&&◌}
use Prim.Native.Nat.{ℕ, suc, ◌-◌, ◌*◌, ◌%◌, ◌≤◌, ◌<◌}
use native.Mathlib.Nat.{mul-le-mul}
use native.Mathlib.Omega.{arith}
use borrow.Author.Tests.{ltb-true, ltb-false, le-leb, lt-leb, not-false}
use lib.Dec.{ltb, leb, lit<}
use lib.IntN.{ℤ, pos, negsuc, ◌-ℤ◌, ◌*ℤ◌}
use lib.Signed.{mag, lt_z, le_z}
use mir.Syntax.{w64}
use mir.Val.{SFits}
use Rattle.sheet.specs.Width.{mod_of, half_of, wrap_of, signed_of, bits32}
use Rattle.sheet.specs.Multiply.{bits_of, fits_signed, signed_product, span_of}
use Rattle.calc_word.proofs.WidthLaws.{mod_half}
use Rattle.calc_signed.proofs.SignedLaws.{mag_neg}
use Rattle.calc_signed.proofs.ReadBack.{half_pos, below_zero, read_mag, read_pos, read_negsuc, bits_read}

mag_times : (x y : ℤ) → mag (x *ℤ y) ≤ suc (mag x) * suc (mag y)
mag_times (pos a) (pos b) = omega arith
mag_times (pos a) (negsuc b) = omega (arith, mag_neg (a * suc b))
mag_times (negsuc a) (pos b) = omega (arith, mag_neg (suc a * b))
mag_times (negsuc a) (negsuc b) = omega arith

pub times_fits : (x y : ℤ) → mag x < 65536 → mag y < 65536 → SFits w64 (x *ℤ y)
times_fits x y hx hy = record { sfits = omega (arith, mag_times x y, mul-le-mul hx hy) }

-- ---- the lower half

between : (h : ℕ) (z : ℤ) → 0 < h → (le_z (pos 0 -ℤ pos h) z && lt_z z (pos h)) ≡ ltb (mag z) h
between h (pos n) l = rw (below_zero 0 h l)
between h (negsuc n) l = rw (below_zero 0 h l) (go (ltb n h) refl)
  where
    go : (t : Bool) → ltb n h ≡ t → (leb n (h - 1) && true) ≡ t
    go true e = rw (le-leb n (h - 1) (omega (arith, ltb-true n h e)))
    go false e = rw (lt-leb n (h - 1) (omega (arith, ltb-false n h e)))

pub fits_within : (w : Bool) (z : ℤ) → fits_signed w z ≡ ltb (mag z) (half_of w)
unfolding fits_signed
fits_within w z = between (half_of w) z (half_pos w)

module _ (w : Bool) (a b : ℕ) where
  -- where CY and V are 0, the lower half alone is the product
  pub lower_half_holds : (signed_product w a b).exceeds ≡ false
      → signed_of (half_of w) (wrap_of w (signed_product w a b).bits) ≡ signed_of (half_of w) a *ℤ signed_of (half_of w) b
  unfolding signed_product bits_of
  lower_half_holds e =
      let z = signed_of (half_of w) a *ℤ signed_of (half_of w) b in
      bits_read w z (ltb-true (mag z) (half_of w) (sym (fits_within w z) ∙ not-false (fits_signed w z) e))

-- ---- twice the width

-- a product of two operands lies within twice the width
square : (w : Bool) → half_of w * half_of w < span_of w
square true = lit< tt
square false = lit< tt

double_pos : (w : Bool) (n : ℕ) → n < span_of w → bits32 (pos n) % (2 * span_of w) ≡ n
unfolding bits32
double_pos true n l = omega arith
double_pos false n l = omega arith

double_negsuc : (w : Bool) (n : ℕ) → n < span_of w → bits32 (negsuc n) % (2 * span_of w) ≡ 2 * span_of w - suc n
unfolding bits32
double_negsuc true n l = omega arith
double_negsuc false n l = omega arith

double_read : (w : Bool) (z : ℤ) → mag z < span_of w → signed_of (span_of w) (bits32 z % (2 * span_of w)) ≡ z
double_read w (pos n) l = rw (double_pos w n l) (read_pos (span_of w) n l)
double_read w (negsuc n) l = rw (double_negsuc w n l) (read_negsuc (span_of w) n l)

-- AW, or DW and AW, hold every product
pub product_holds : (w : Bool) (a b : ℕ) → a < mod_of w → b < mod_of w
    → signed_of (span_of w) ((signed_product w a b).bits % (2 * span_of w)) ≡ signed_of (half_of w) a *ℤ signed_of (half_of w) b
unfolding signed_product
product_holds w a b ha hb =
    let x = signed_of (half_of w) a in
    let y = signed_of (half_of w) b in
    let hx = read_mag (half_of w) a (rw (mod_half w) at ha) in
    let hy = read_mag (half_of w) b (rw (mod_half w) at hb) in
    double_read w (x *ℤ y) (omega (arith, mag_times x y, mul-le-mul hx hy, square w))
