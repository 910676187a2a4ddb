-- n places to the left and back: a rotation gives the operand back, a shift its low bits; and what n places come to.
use mathlib.Core.Path.{◌≡◌, refl, sym, ap, ◌∙◌}
use mathlib.Core.Bool.{Bool, true, false}
use Prim.Native.Nat.{ℕ, zero, suc, ◌+◌, ◌*◌, ◌/◌, ◌%◌, ◌^◌, ◌<◌}
use native.Mathlib.Nat.{add-zero, mul-one, pow-suc, mul_assoc, div-one, div-div-eq-div-mul, mod-eq_of_lt}
use native.Mathlib.Omega.{arith}
use borrow.Author.Tests.{leb-true, leb-false, eq-eqb, ne_eqb}
use lib.Dec.{eqb, leb}
use lib.Pow.{field, shl-shr}
use Rattle.calc_word.proofs.WidthLaws.{wrap_lt}
use Rattle.sheet.specs.declared.Shift.{Shift}
use Rattle.sheet.specs.declared.Shift.TheVariants.{Rol, Ror, Shl, Shr}
use Rattle.sheet.specs.declared.Turn.{Turn}
use Rattle.sheet.specs.Width.{pick, mod_of, half_of, wrap_of, sign_of}
use Rattle.sheet.specs.Psw.{bit}
use Rattle.sheet.specs.Shift.{comes_in, to_left, to_right, one_place, many_places}

-- the first place may be taken first
pub many_first : (k : Shift) (w : Bool) (n : ℕ) (t : Turn) → many_places k w (suc n) t ≡ many_places k w n (one_place k w t)
unfolding many_places
many_first k w zero t = refl
many_first k w (suc n) t = ap (one_place k w) (many_first k w n t)

-- ---- rotations

-- CY plays no part in the value that ROR leaves
ror_alike : (w : Bool) (n : ℕ) (t u : Turn) → t.value ≡ u.value → (many_places Ror w n t).value ≡ (many_places Ror w n u).value
unfolding many_places one_place comes_in to_right
ror_alike w zero t u e = e
ror_alike w (suc n) t u e = rw (ror_alike w n t u e)

rol_lt : (w : Bool) (n : ℕ) (t : Turn) → t.value < mod_of w → (many_places Rol w n t).value < mod_of w
unfolding many_places one_place comes_in to_left
rol_lt w zero t h = h
rol_lt w (suc n) t h = wrap_lt w _

-- one place to the left, and back
back : (w : Bool) (x : ℕ) (s : Bool) → leb (half_of w) x ≡ s → x < mod_of w
    → wrap_of w (2 * x + bit s) / 2 + pick (eqb (wrap_of w (2 * x + bit s) % 2) 1) (half_of w) 0 ≡ x
unfolding wrap_of
back true x true e h =
    let y = leb-true 32768 x e in
    rw (eq-eqb ((2 * x + 1) % 65536 % 2) 1 (omega arith)) (omega arith)
back true x false e h =
    let y = leb-false 32768 x e in
    rw (ne_eqb ((2 * x + 0) % 65536 % 2) 1 (omega arith)) (omega arith)
back false x true e h =
    let y = leb-true 128 x e in
    rw (eq-eqb ((2 * x + 1) % 256 % 2) 1 (omega arith)) (omega arith)
back false x false e h =
    let y = leb-false 128 x e in
    rw (ne_eqb ((2 * x + 0) % 256 % 2) 1 (omega arith)) (omega arith)

back_one : (w : Bool) (t : Turn) → t.value < mod_of w → (one_place Ror w (one_place Rol w t)).value ≡ t.value
unfolding one_place comes_in to_left to_right sign_of
back_one w t h = back w t.value (leb (half_of w) t.value) refl h

pub rol_ror : (w : Bool) (n : ℕ) (t : Turn) → t.value < mod_of w → (many_places Ror w n (many_places Rol w n t)).value ≡ t.value
unfolding many_places
rol_ror w zero t h = refl
rol_ror w (suc n) t h =
    ap (λ (u : Turn). u.value) (many_first Ror w n (one_place Rol w (many_places Rol w n t)))
    ∙ ror_alike w n (one_place Ror w (one_place Rol w (many_places Rol w n t))) (many_places Rol w n t) (back_one w (many_places Rol w n t) (rol_lt w n t h))
    ∙ rol_ror w n t h

-- ---- shifts

-- SHR divides by 2 ^ n
pub shr_value : (w : Bool) (n : ℕ) (t : Turn) → (many_places Shr w n t).value ≡ t.value / 2 ^ n
unfolding many_places one_place comes_in to_right
shr_value w zero t = sym (div-one t.value)
shr_value w (suc n) t =
    rw (shr_value w n t, add-zero (t.value / 2 ^ n / 2), pow-suc 2 n) (div-div-eq-div-mul t.value (2 ^ n) 2)

-- SHL multiplies by 2 ^ n, within the width
double : (w : Bool) (y : ℕ) → wrap_of w (2 * (y % mod_of w) + bit false) ≡ y * 2 % mod_of w
unfolding wrap_of
double true y = omega arith
double false y = omega arith

pub shl_value : (w : Bool) (n : ℕ) (t : Turn) → t.value < mod_of w → (many_places Shl w n t).value ≡ t.value * 2 ^ n % mod_of w
unfolding many_places one_place comes_in to_left
shl_value w zero t h = sym (rw (mul-one t.value) (mod-eq_of_lt h))
shl_value w (suc n) t h = rw (shl_value w n t h, double w (t.value * 2 ^ n), mul_assoc t.value (2 ^ n) 2, pow-suc 2 n)

-- of j + n bits, j come back
pub shl_shr_value : (w : Bool) (j n : ℕ) (t : Turn) → mod_of w ≡ 2 ^ (j + n) → t.value < mod_of w → (many_places Shr w n (many_places Shl w n t)).value ≡ t.value % 2 ^ j
shl_shr_value w j n t e h =
    shr_value w n (many_places Shl w n t)
    ∙ rw (shl_value w n t h, e, field (t.value * 2 ^ n) j n, shl-shr t.value n)
