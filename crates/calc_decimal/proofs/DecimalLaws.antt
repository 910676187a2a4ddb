-- One byte of a decimal string, on valid digits: it is the decimal sum or difference modulo 100, and CY is its carry or borrow.
use mathlib.Core.Path.{◌≡◌, refl, ap, ◌∙◌}
use mathlib.Core.Bool.{Bool, true, false, ◌||◌}
use Prim.Native.Nat.{ℕ, ◌+◌, ◌-◌, ◌*◌, ◌/◌, ◌%◌, ◌≤◌, ◌<◌}
use native.Mathlib.Omega.{arith}
use borrow.Author.Tests.{ltb-true, ltb-false, leb-true, leb-false, lt-ltb, le-ltb, lt-leb}
use lib.Dec.{ltb, leb, lit≤}
use Rattle.sheet.specs.Width.{wrap_of, pick}
use Rattle.sheet.specs.Psw.{bit}
use Rattle.sheet.specs.declared.Way.{Way}
use Rattle.sheet.specs.declared.Way.TheVariants.{Addition, Subtraction}
use Rattle.sheet.specs.Adjust.{plain, moved, digits_of, low_adjusted, high_adjusted, adjusted}
use Rattle.sheet.specs.Decimal.{digits}
use Rattle.sheet.proofs.PswLaws.{bit_le}

-- a number below 100 as two digits
abbrev pub packed : ℕ → ℕ
packed n = n / 10 * 16 + n % 10

or_true : (b : Bool) → (b || true) ≡ true
or_true true = refl
or_true false = refl

-- ---- an adjustment, by the tests of its two steps

adjusted_by : (way : Way) (x : ℕ) (ac cy low high : Bool) → (ltb 9 (x % 16) || ac) ≡ low
    → (ltb 0x9f (moved way x (pick low 6 0)).value || (cy || (moved way x (pick low 6 0)).cy)) ≡ high
    → adjusted way (digits_of x ac cy) ≡ digits_of (moved way (moved way x (pick low 6 0)).value (pick high 0x60 0)).value low high
unfolding low_adjusted high_adjusted adjusted
adjusted_by way x ac cy low high e f = rw (e, f)

made : {x y : ℕ} {ac cy : Bool} → x ≡ y → digits_of x ac cy ≡ digits_of y ac cy
made {ac = ac} {cy = cy} e = ap (λ (z : ℕ). digits_of z ac cy) e

-- ---- subtraction: 6 and 60h are taken away where a column borrowed

borrow_adjusted : (x r0 : ℕ) (p q : Bool) → r0 ≤ 9 → x ≤ 9 → adjusted Subtraction (digits_of (x * 16 + r0 + 6 * bit p + 96 * bit q) p q) ≡ digits_of (x * 16 + r0) p q
unfolding plain wrap_of
borrow_adjusted x r0 false false h k =
    let v = x * 16 + r0 + 6 * 0 + 96 * 0 in
    adjusted_by Subtraction v false false false false (rw (le-ltb 9 (v % 16) (omega arith)))
    (rw (le-ltb 159 ((131072 + v - 0) % 256) (omega arith), le-ltb v 0 (omega arith)))
    ∙ made (omega arith)
borrow_adjusted x r0 true false h k =
    let v = x * 16 + r0 + 6 * 1 + 96 * 0 in
    adjusted_by Subtraction v true false true false (or_true (ltb 9 (v % 16)))
    (rw (le-ltb 159 ((131072 + v - 6) % 256) (omega arith), le-ltb v 6 (omega arith)))
    ∙ made (omega arith)
borrow_adjusted x r0 false true h k =
    let v = x * 16 + r0 + 6 * 0 + 96 * 1 in
    adjusted_by Subtraction v false true false true (rw (le-ltb 9 (v % 16) (omega arith))) (or_true (ltb 159 ((131072 + v - 0) % 256)))
    ∙ made (omega arith)
borrow_adjusted x r0 true true h k =
    let v = x * 16 + r0 + 6 * 1 + 96 * 1 in
    adjusted_by Subtraction v true true true true (or_true (ltb 9 (v % 16))) (or_true (ltb 159 ((131072 + v - 6) % 256)))
    ∙ made (omega arith)

-- ---- addition: 6 and 60h are added where a column exceeds 9

-- the byte t, k later added, exceeds 9Fh, now or before it was cut to a byte
over : (t k : ℕ) → k ≤ 6 → 160 ≤ t + k → t < 512 → (ltb 159 ((t % 256 + k + 0) % 256) || (leb 256 t || leb 256 (t % 256 + k + 0))) ≡ true
over t k h l g = go (leb 256 t) (leb 256 (t % 256 + k + 0)) refl refl
  where
    go : (a b : Bool) → leb 256 t ≡ a → leb 256 (t % 256 + k + 0) ≡ b → (ltb 159 ((t % 256 + k + 0) % 256) || (a || b)) ≡ true
    go true b e f = or_true (ltb 159 ((t % 256 + k + 0) % 256))
    go false true e f = or_true (ltb 159 ((t % 256 + k + 0) % 256))
    go false false e f =
        let x = leb-false 256 t e in
        let y = leb-false 256 (t % 256 + k + 0) f in
        rw (lt-ltb 159 ((t % 256 + k + 0) % 256) (omega arith))

under : (t k : ℕ) → t + k ≤ 153 → (ltb 159 ((t % 256 + k + 0) % 256) || (leb 256 t || leb 256 (t % 256 + k + 0))) ≡ false
under t k h =
    rw (le-ltb 159 ((t % 256 + k + 0) % 256) (omega arith), lt-leb 256 t (omega arith), lt-leb 256 (t % 256 + k + 0) (omega arith))

-- a low column x of 10 to 19
exceeds : (s x : ℕ) → 10 ≤ x → x ≤ 19 → (ltb 9 ((s * 16 + x) % 256 % 16) || leb 16 x) ≡ true
exceeds s x h l = go (leb 16 x) refl
  where
    go : (a : Bool) → leb 16 x ≡ a → (ltb 9 ((s * 16 + x) % 256 % 16) || a) ≡ true
    go true e = or_true (ltb 9 ((s * 16 + x) % 256 % 16))
    go false e = let y = leb-false 16 x e in rw (lt-ltb 9 ((s * 16 + x) % 256 % 16) (omega arith))

carry_adjusted : (s r1 r0 : ℕ) (p q : Bool) → r1 ≤ 9 → r0 ≤ 9 → s + bit p ≡ r1 + 10 * bit q
    → adjusted Addition (digits_of ((s * 16 + (r0 + 10 * bit p)) % 256) (leb 16 (r0 + 10 * bit p)) (leb 256 (s * 16 + (r0 + 10 * bit p)))) ≡ digits_of (r1 * 16 + r0) p q
unfolding plain wrap_of
carry_adjusted s r1 r0 false false k1 k0 e =
    let t = s * 16 + (r0 + 0) in
    adjusted_by Addition (t % 256) (leb 16 (r0 + 0)) (leb 256 t) false false (rw (le-ltb 9 (t % 256 % 16) (omega arith), lt-leb 16 (r0 + 0) (omega arith))) (under t 0 (omega arith))
    ∙ made (omega arith)
carry_adjusted s r1 r0 true false k1 k0 e =
    let t = s * 16 + (r0 + 10) in
    adjusted_by Addition (t % 256) (leb 16 (r0 + 10)) (leb 256 t) true false (exceeds s (r0 + 10) (omega arith) (omega arith)) (under t 6 (omega arith))
    ∙ made (omega arith)
carry_adjusted s r1 r0 false true k1 k0 e =
    let t = s * 16 + (r0 + 0) in
    adjusted_by Addition (t % 256) (leb 16 (r0 + 0)) (leb 256 t) false true (rw (le-ltb 9 (t % 256 % 16) (omega arith), lt-leb 16 (r0 + 0) (omega arith))) (over t 0 (omega arith) (omega arith) (omega arith))
    ∙ made (omega arith)
carry_adjusted s r1 r0 true true k1 k0 e =
    let t = s * 16 + (r0 + 10) in
    adjusted_by Addition (t % 256) (leb 16 (r0 + 10)) (leb 256 t) true true (exceeds s (r0 + 10) (omega arith) (omega arith)) (over t 6 (omega arith) (omega arith) (omega arith))
    ∙ made (omega arith)

-- ---- in columns, as on paper: digits d1 d0 and e1 e0 with c coming in make r1 r0; p goes from column to column, and q out

low_digit : (x y : ℕ) → y ≤ 15 → (x * 16 + y) % 16 ≡ y
low_digit x y h = omega arith

module _ (d1 d0 e1 e0 r1 r0 : ℕ) (c : Bool) (h1 : d1 ≤ 9) (h0 : d0 ≤ 9) (g1 : e1 ≤ 9) (g0 : e0 ≤ 9) (k1 : r1 ≤ 9) (k0 : r0 ≤ 9) where
  borrow_plain : (p q : Bool) → d0 + 10 * bit p ≡ e0 + bit c + r0 → d1 + 10 * bit q ≡ e1 + bit p + r1
      → plain Subtraction (d1 * 16 + d0) (e1 * 16 + e0) c ≡ digits_of (r1 * 16 + r0 + 6 * bit p + 96 * bit q) p q
  unfolding plain wrap_of
  borrow_plain false false low high =
      rw (low_digit d1 d0 (omega arith), low_digit e1 e0 (omega arith), le-ltb d0 (e0 + bit c) (omega arith), le-ltb (d1 * 16 + d0) (e1 * 16 + e0 + bit c) (omega arith))
      (made (omega arith))
  borrow_plain true false low high =
      rw (low_digit d1 d0 (omega arith), low_digit e1 e0 (omega arith), lt-ltb d0 (e0 + bit c) (omega arith), le-ltb (d1 * 16 + d0) (e1 * 16 + e0 + bit c) (omega arith))
      (made (omega arith))
  borrow_plain false true low high =
      rw (low_digit d1 d0 (omega arith), low_digit e1 e0 (omega arith), le-ltb d0 (e0 + bit c) (omega arith), lt-ltb (d1 * 16 + d0) (e1 * 16 + e0 + bit c) (omega arith))
      (made (omega arith))
  borrow_plain true true low high =
      rw (low_digit d1 d0 (omega arith), low_digit e1 e0 (omega arith), lt-ltb d0 (e0 + bit c) (omega arith), lt-ltb (d1 * 16 + d0) (e1 * 16 + e0 + bit c) (omega arith))
      (made (omega arith))

  pub column_borrow : (p q : Bool) → d0 + 10 * bit p ≡ e0 + bit c + r0 → d1 + 10 * bit q ≡ e1 + bit p + r1
      → digits Subtraction (d1 * 16 + d0) (e1 * 16 + e0) c ≡ digits_of (r1 * 16 + r0) p q
  unfolding digits
  column_borrow p q low high = rw (borrow_plain p q low high) (borrow_adjusted r1 r0 p q k0 k1)

  carry_plain : (p : Bool) → d0 + e0 + bit c ≡ r0 + 10 * bit p
      → plain Addition (d1 * 16 + d0) (e1 * 16 + e0) c
      ≡ digits_of (((d1 + e1) * 16 + (r0 + 10 * bit p)) % 256) (leb 16 (r0 + 10 * bit p)) (leb 256 ((d1 + e1) * 16 + (r0 + 10 * bit p)))
  unfolding plain wrap_of
  carry_plain p low =
      let sum : d1 * 16 + d0 + (e1 * 16 + e0) + bit c ≡ (d1 + e1) * 16 + (r0 + 10 * bit p) = omega arith in
      rw (low_digit d1 d0 (omega arith), low_digit e1 e0 (omega arith), low, sum)

  pub column_carry : (p q : Bool) → d0 + e0 + bit c ≡ r0 + 10 * bit p → d1 + e1 + bit p ≡ r1 + 10 * bit q
      → digits Addition (d1 * 16 + d0) (e1 * 16 + e0) c ≡ digits_of (r1 * 16 + r0) p q
  unfolding digits
  column_carry p q low high = rw (carry_plain p low) (carry_adjusted (d1 + e1) r1 r0 p q k1 k0 high)

-- ---- numbers below 100

module _ (m n : ℕ) (c : Bool) (hm : m < 100) (hn : n < 100) where
  -- the hundreds that are borrowed or carried
  borrows : (q : Bool) → ltb m (n + bit c) ≡ q → (100 + m - (n + bit c)) % 100 + n + bit c ≡ m + 100 * bit q
  borrows true e = omega (arith, bit_le c, ltb-true m (n + bit c) e)
  borrows false e = omega (arith, bit_le c, ltb-false m (n + bit c) e)

  carries : (q : Bool) → leb 100 (m + n + bit c) ≡ q → m + n + bit c ≡ (m + n + bit c) % 100 + 100 * bit q
  carries true e = omega (arith, bit_le c, leb-true 100 (m + n + bit c) e)
  carries false e = omega (arith, bit_le c, leb-false 100 (m + n + bit c) e)

  -- so are the tens
  module _ (r q : ℕ) where
    borrow_columns : (p : Bool) → r + n + bit c ≡ m + 100 * q → ltb (m % 10) (n % 10 + bit c) ≡ p
        → (m % 10 + 10 * bit p ≡ n % 10 + bit c + r % 10) × (m / 10 + 10 * q ≡ n / 10 + bit p + r / 10)
    borrow_columns true h e = omega (arith, bit_le c, ltb-true (m % 10) (n % 10 + bit c) e)
    borrow_columns false h e = omega (arith, bit_le c, ltb-false (m % 10) (n % 10 + bit c) e)

    carry_columns : (p : Bool) → m + n + bit c ≡ r + 100 * q → leb 10 (m % 10 + n % 10 + bit c) ≡ p
        → (m % 10 + n % 10 + bit c ≡ r % 10 + 10 * bit p) × (m / 10 + n / 10 + bit p ≡ r / 10 + 10 * q)
    carry_columns true h e = omega (arith, bit_le c, leb-true 10 (m % 10 + n % 10 + bit c) e)
    carry_columns false h e = omega (arith, bit_le c, leb-false 10 (m % 10 + n % 10 + bit c) e)

  -- SUB4S: the difference of two valid bytes and a borrow, modulo 100, with AC and CY as the borrows of its columns
  pub decimal_borrow : digits Subtraction (packed m) (packed n) c
      ≡ digits_of (packed ((100 + m - (n + bit c)) % 100)) (ltb (m % 10) (n % 10 + bit c)) (ltb m (n + bit c))
  decimal_borrow =
      let p = ltb (m % 10) (n % 10 + bit c) in
      let q = ltb m (n + bit c) in
      let r = (100 + m - (n + bit c)) % 100 in
      let d = borrow_columns r (bit q) p (borrows q refl) refl in
      column_borrow (m / 10) (m % 10) (n / 10) (n % 10) (r / 10) (r % 10) c (omega arith) (omega arith) (omega arith) (omega arith)
      (omega arith) (omega arith) p q d.0 d.1

  -- ADD4S: the sum with a carry, likewise
  pub decimal_carry : digits Addition (packed m) (packed n) c
      ≡ digits_of (packed ((m + n + bit c) % 100)) (leb 10 (m % 10 + n % 10 + bit c)) (leb 100 (m + n + bit c))
  decimal_carry =
      let p = leb 10 (m % 10 + n % 10 + bit c) in
      let q = leb 100 (m + n + bit c) in
      let r = (m + n + bit c) % 100 in
      let d = carry_columns r (bit q) p (carries q refl) refl in
      column_carry (m / 10) (m % 10) (n / 10) (n % 10) (r / 10) (r % 10) c (omega arith) (omega arith) (omega arith) (omega arith)
      (omega arith) (omega arith) p q d.0 d.1

-- the league's own case: 28 from 06 is 78, with a borrow
pub six_less_28 : digits Subtraction 0x06 0x28 false ≡ digits_of 0x78 true true
six_less_28 = decimal_borrow 6 28 false (lit≤ tt) (lit≤ tt)
