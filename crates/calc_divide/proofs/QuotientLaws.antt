-- What a quotient that stands says of its operands, for both widths: quotient times divisor plus remainder is the dividend, the remainder is
-- smaller than the divisor and has the dividend's sign, and the quotient lies within the limits.
use mathlib.Core.Path.{◌≡◌, refl, sym, ap, ◌∙◌}
use mathlib.Core.Bool.{Bool, true, false, ◌&&◌}
use Prim.Native.Nat.{ℕ, zero, suc, ◌+◌, ◌-◌, ◌*◌, ◌/◌, ◌%◌, ◌≤◌, ◌<◌}
use native.Mathlib.Nat.{zero-mul, mod-lt, mod-le, div-add-mod'}
use native.Mathlib.Omega.{arith}
use borrow.Author.Tests.{ltb-true, ltb-false, leb-true, eqb-false, le-leb, lt-ltb, le-ltb}
use lib.Dec.{eqb, ltb}
use lib.IntN.{ℤ, pos, negsuc, neg_ℤ, nat_abs, ◌+ℤ◌, ◌-ℤ◌, ◌*ℤ◌, neg_ℤ-+ℤ}
use lib.Signed.{mag, quot_z, rem_z, lt_z, le_z}
use Rattle.sheet.specs.Width.{mod_of, half_of, wrap_of, signed_of}
use Rattle.sheet.specs.Multiply.{bits_of, quoted, signed_quotient, span_of, stands, unsigned_quotient, gives}
use Rattle.calc_word.proofs.WidthLaws.{mod_half, wrap_lt}
use Rattle.calc_signed.proofs.SignedLaws.{signed_nz}
use Rattle.calc_signed.proofs.ReadBack.{half_pos, below_zero, read_mag, bits_read}
use Rattle.std.specs.Prelude.{Option, Some, None}
use Rattle.sheet.specs.declared.Quotient.{Quotient}

-- of a division that does not trap: its quotient, and its remainder
abbrev pub quotient_in : Option Quotient → ℕ
quotient_in (Some d) = d.quotient
quotient_in None = 0

abbrev pub remainder_in : Option Quotient → ℕ
remainder_in (Some d) = d.remainder
remainder_in None = 0

-- ---- the integers: division toward zero

minus_times : (q b : ℕ) → neg_ℤ (pos q) *ℤ pos b ≡ neg_ℤ (pos (q * b))
minus_times zero b = rw (zero-mul b)
minus_times (suc q) b = refl

minus_minus : (q b : ℕ) → neg_ℤ (pos q) *ℤ negsuc b ≡ pos (q * suc b)
minus_minus zero b = rw (zero-mul (suc b))
minus_minus (suc q) b = refl

whole_minus : (x y n : ℕ) → x + y ≡ suc n → neg_ℤ (pos x) +ℤ neg_ℤ (pos y) ≡ negsuc n
whole_minus x y n e = sym (neg_ℤ-+ℤ (pos x) (pos y)) ∙ ap (λ (z : ℕ). neg_ℤ (pos z)) e

pub quot_rem : (n d : ℤ) → quot_z n d *ℤ d +ℤ rem_z n d ≡ n
quot_rem (pos a) (pos b) = ap pos (div-add-mod' a b)
quot_rem (pos a) (negsuc b) = rw (minus_minus (a / suc b) b) (ap pos (div-add-mod' a (suc b)))
quot_rem (negsuc a) (pos b) =
    rw (minus_times (suc a / b) b) (whole_minus (suc a / b * b) (suc a % b) a (div-add-mod' (suc a) b))
quot_rem (negsuc a) (negsuc b) = whole_minus (suc a / suc b * suc b) (suc a % suc b) a (div-add-mod' (suc a) (suc b))

abs_minus : (r : ℕ) → nat_abs (neg_ℤ (pos r)) ≡ r
abs_minus zero = refl
abs_minus (suc r) = refl

abs_pos : (d : ℤ) → (d ≡ pos 0 → ⊥) → 0 < nat_abs d
abs_pos (pos zero) h = absurd (h refl)
abs_pos (pos (suc n)) h = omega arith
abs_pos (negsuc n) h = omega arith

rem_smaller : (n d : ℤ) → (d ≡ pos 0 → ⊥) → nat_abs (rem_z n d) < nat_abs d
rem_smaller (pos a) d z = mod-lt a (abs_pos d z)
rem_smaller (negsuc a) d z = rw (abs_minus (suc a % nat_abs d)) (mod-lt (suc a) (abs_pos d z))

-- the remainder lies on the dividend's side of 0
rem_from_zero : (n d : ℤ) → le_z (pos 0) n ≡ true → le_z (pos 0) (rem_z n d) ≡ true
rem_from_zero (pos a) d e = le-leb 0 (a % nat_abs d) (omega arith)
rem_from_zero (negsuc a) d e = cc

minus_to_zero : (r : ℕ) → le_z (neg_ℤ (pos r)) (pos 0) ≡ true
minus_to_zero zero = refl
minus_to_zero (suc r) = refl

rem_to_zero : (n d : ℤ) → le_z n (pos 0) ≡ true → le_z (rem_z n d) (pos 0) ≡ true
rem_to_zero (pos a) d e = le-leb (a % nat_abs d) 0 (omega (arith, leb-true a 0 e, mod-le a (nat_abs d)))
rem_to_zero (negsuc a) d e = minus_to_zero (suc a % nat_abs d)

-- ---- the limits

between : (h : ℕ) (z : ℤ) → 0 < h → (lt_z (pos 0 -ℤ pos h) z && lt_z z (pos h)) ≡ ltb (nat_abs z) h
between h (pos n) l = rw (below_zero 0 h l)
between h (negsuc n) l = rw (below_zero 0 h l) (go (ltb (suc n) h) refl)
  where
    go : (t : Bool) → ltb (suc n) h ≡ t → (ltb n (h - 1) && true) ≡ t
    go true e = rw (lt-ltb n (h - 1) (omega (arith, ltb-true (suc n) h e)))
    go false e = rw (le-ltb n (h - 1) (omega (arith, ltb-false (suc n) h e)))

-- the quotients that stand: from -7FFFh to 7FFFh, or from -7Fh to 7Fh
pub stands_within : (w : Bool) (z : ℤ) → stands w z ≡ ltb (nat_abs z) (half_of w)
unfolding stands
stands_within w z = between (half_of w) z (half_pos w)

mag_abs : (z : ℤ) → mag z ≤ nat_abs z
mag_abs (pos n) = omega arith
mag_abs (negsuc n) = omega arith

abs_mag : (z : ℤ) → nat_abs z ≤ suc (mag z)
abs_mag (pos n) = omega arith
abs_mag (negsuc n) = omega arith

-- ---- the theorems

-- q and r, read with their signs, are the quotient and the remainder of n and d
pub record Exact (w : Bool) (n d : ℤ) (q r : ℕ) : Type 0 where
  pub whole : signed_of (half_of w) q *ℤ d +ℤ signed_of (half_of w) r ≡ n
  pub smaller : nat_abs (signed_of (half_of w) r) < nat_abs d
  pub from_zero : le_z (pos 0) n ≡ true → le_z (pos 0) (signed_of (half_of w) r) ≡ true
  pub to_zero : le_z n (pos 0) ≡ true → le_z (signed_of (half_of w) r) (pos 0) ≡ true
  pub limit : nat_abs (signed_of (half_of w) q) < half_of w

module _ (w : Bool) (n d : ℤ) (nz : d ≡ pos 0 → ⊥) (small : nat_abs d ≤ half_of w) where
  exact : nat_abs (quot_z n d) < half_of w → Exact w n d (bits_of w (quot_z n d)) (bits_of w (rem_z n d))
  exact l =
      let q = bits_read w (quot_z n d) (omega (arith, mag_abs (quot_z n d))) in
      let r = bits_read w (rem_z n d) (omega (arith, mag_abs (rem_z n d), rem_smaller n d nz)) in
      record {
        whole = rw (q, r) (quot_rem n d);
        smaller = rw r (rem_smaller n d nz);
        from_zero = rw r (rem_from_zero n d);
        to_zero = rw r (rem_to_zero n d);
        limit = rw q l;
      }

  quoted_exact : (q r : ℕ) → quoted w n d ≡ gives q r → Exact w n d q r
  unfolding quoted
  quoted_exact q r = go (stands w (quot_z n d)) refl
    where
      go : (t : Bool) → stands w (quot_z n d) ≡ t → quoted w n d ≡ gives q r → Exact w n d q r
      go true e p =
          let o = rw e at p in
          let eq : bits_of w (quot_z n d) ≡ q = ap quotient_in o in
          let er : bits_of w (rem_z n d) ≡ r = ap remainder_in o in
          rw (← eq, ← er) (exact (ltb-true (nat_abs (quot_z n d)) (half_of w) (sym (stands_within w (quot_z n d)) ∙ e)))
      go false e p =
          let o = rw e at p in
          let no : ◌≡◌ {A = ℕ} 0 1 = cc in
          absurd (omega arith)

module _ (w : Bool) (a b q r : ℕ) where
  -- DIV
  pub signed_quotient_exact : signed_quotient w a b ≡ gives q r
      → Exact w (signed_of (span_of w) a) (signed_of (half_of w) (wrap_of w b)) q r
  unfolding signed_quotient
  signed_quotient_exact = go (eqb (wrap_of w b) 0) refl
    where
      k : wrap_of w b < 2 * half_of w
      k = rw (mod_half w) at (wrap_lt w b)

      go : (t : Bool) → eqb (wrap_of w b) 0 ≡ t → signed_quotient w a b ≡ gives q r
          → Exact w (signed_of (span_of w) a) (signed_of (half_of w) (wrap_of w b)) q r
      go true e p =
          let o = rw e at p in
          let no : ◌≡◌ {A = ℕ} 0 1 = cc in
          absurd (omega arith)
      go false e p =
          let d = signed_of (half_of w) (wrap_of w b) in
          quoted_exact w (signed_of (span_of w) a) d (signed_nz (half_of w) (wrap_of w b) k (eqb-false (wrap_of w b) 0 e))
          (omega (arith, abs_mag d, read_mag (half_of w) (wrap_of w b) k)) q r (rw e at p)

  -- DIVU
  pub unsigned_quotient_exact : unsigned_quotient w a b ≡ gives q r → (q * wrap_of w b + r ≡ a) × (r < wrap_of w b) × (q < mod_of w)
  unfolding unsigned_quotient
  unsigned_quotient_exact = go (eqb (wrap_of w b) 0) (ltb (a / wrap_of w b) (mod_of w)) refl refl
    where
      go : (t u : Bool) → eqb (wrap_of w b) 0 ≡ t → ltb (a / wrap_of w b) (mod_of w) ≡ u → unsigned_quotient w a b ≡ gives q r
          → (q * wrap_of w b + r ≡ a) × (r < wrap_of w b) × (q < mod_of w)
      go true u e f p =
          let o = rw e at p in
          let no : ◌≡◌ {A = ℕ} 0 1 = cc in
          absurd (omega arith)
      go false false e f p =
          let o = rw (e, f) at p in
          let no : ◌≡◌ {A = ℕ} 0 1 = cc in
          absurd (omega arith)
      go false true e f p =
          let o = rw (e, f) at p in
          let eq : a / wrap_of w b ≡ q = ap quotient_in o in
          let er : a % wrap_of w b ≡ r = ap remainder_in o in
          let nz = eqb-false (wrap_of w b) 0 e in
          rw (← eq, ← er) (div-add-mod' a (wrap_of w b), mod-lt a (omega arith), ltb-true (a / wrap_of w b) (mod_of w) f)
