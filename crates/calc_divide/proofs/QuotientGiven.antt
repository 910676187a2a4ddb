-- When a quotient stands: exactly for a divisor other than 0 and a quotient within the limits. Otherwise the trap is taken.
use mathlib.Core.Path.{◌≡◌, refl}
use mathlib.Core.Bool.{Bool, true, false}
use mathlib.Core.Logic.{◌≢◌}
use Prim.Native.Nat.{ℕ, ◌*◌, ◌/◌, ◌%◌, ◌+◌, ◌≤◌, ◌<◌}
use lib.Dec.{eqb}
use lib.IntN.{ℤ, nat_abs}
use lib.Signed.{quot_z, rem_z}
use borrow.Author.Tests.{eqb-true, lt-ltb, le-ltb}
use Rattle.sheet.specs.Width.{mod_of, half_of, wrap_of, signed_of}
use Rattle.std.specs.Prelude.{Option, None}
use Rattle.sheet.specs.declared.Quotient.{Quotient}
use Rattle.sheet.specs.Multiply.{bits_of, quoted, signed_quotient, span_of, unsigned_quotient, gives}
use Rattle.calc_divide.proofs.QuotientLaws.{stands_within, Exact, signed_quotient_exact, unsigned_quotient_exact}

-- a number is 0 or is not
divisor : (k : ℕ) → k ≢ 0 → eqb k 0 ≡ false
divisor k h = go (eqb k 0) refl
  where
    go : (t : Bool) → eqb k 0 ≡ t → t ≡ false
    go true e = absurd (h (eqb-true k 0 e))
    go false e = refl

-- a quotient and a remainder that stand, and what is true of them
pub record Given (d : Option Quotient) (Q : ℕ → ℕ → Type 0) : Type 0 where
  pub quotient : ℕ
  pub remainder : ℕ
  pub is : d ≡ gives quotient remainder
  pub true_of : Q quotient remainder

module _ (w : Bool) (a b : ℕ) where
  abbrev n : ℤ
  n = signed_of (span_of w) a

  abbrev d : ℤ
  d = signed_of (half_of w) (wrap_of w b)

  -- DIV
  pub signed_quotient_given : wrap_of w b ≢ 0 → nat_abs (quot_z n d) < half_of w → Given (signed_quotient w a b) (Exact w n d)
  unfolding signed_quotient quoted
  signed_quotient_given h l =
      let e : signed_quotient w a b ≡ gives (bits_of w (quot_z n d)) (bits_of w (rem_z n d)) =
      rw (divisor (wrap_of w b) h, stands_within w (quot_z n d), lt-ltb (nat_abs (quot_z n d)) (half_of w) l) in
      record { quotient = bits_of w (quot_z n d); remainder = bits_of w (rem_z n d); is = e; true_of = signed_quotient_exact w a b _ _ e }

  pub signed_by_zero : wrap_of w b ≡ 0 → signed_quotient w a b ≡ None
  unfolding signed_quotient
  signed_by_zero e = rw e

  pub signed_beyond : half_of w ≤ nat_abs (quot_z n d) → signed_quotient w a b ≡ None
  unfolding signed_quotient quoted
  signed_beyond l = go (eqb (wrap_of w b) 0) refl
    where
      go : (t : Bool) → eqb (wrap_of w b) 0 ≡ t → signed_quotient w a b ≡ None
      go true e = rw e
      go false e = rw (e, stands_within w (quot_z n d), le-ltb (nat_abs (quot_z n d)) (half_of w) l)

  -- DIVU
  pub unsigned_quotient_given : wrap_of w b ≢ 0 → a / wrap_of w b < mod_of w
      → Given (unsigned_quotient w a b) (λ q r. (q * wrap_of w b + r ≡ a) × (r < wrap_of w b) × (q < mod_of w))
  unfolding unsigned_quotient
  unsigned_quotient_given h l =
      let e : unsigned_quotient w a b ≡ gives (a / wrap_of w b) (a % wrap_of w b) = rw (divisor (wrap_of w b) h, lt-ltb (a / wrap_of w b) (mod_of w) l) in
      record { quotient = a / wrap_of w b; remainder = a % wrap_of w b; is = e; true_of = unsigned_quotient_exact w a b _ _ e }

  pub unsigned_by_zero : wrap_of w b ≡ 0 → unsigned_quotient w a b ≡ None
  unfolding unsigned_quotient
  unsigned_by_zero e = rw e

  pub unsigned_beyond : mod_of w ≤ a / wrap_of w b → unsigned_quotient w a b ≡ None
  unfolding unsigned_quotient
  unsigned_beyond l = go (eqb (wrap_of w b) 0) refl
    where
      go : (t : Bool) → eqb (wrap_of w b) 0 ≡ t → unsigned_quotient w a b ≡ None
      go true e = rw e
      go false e = rw (e, le-ltb (a / wrap_of w b) (mod_of w) l)
