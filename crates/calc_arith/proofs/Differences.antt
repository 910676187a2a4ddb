-- Integers as differences of two naturals: their sums, and on which side of a bound they lie.
use mathlib.Core.Path.{◌≡◌, refl, sym, ap, ◌∙◌}
use mathlib.Core.Bool.{Bool, true, false}
use Prim.Native.Nat.{ℕ, zero, suc, ◌+◌, ◌-◌, ◌*◌, ◌≤◌, ◌<◌}
use native.Mathlib.Nat.{add-zero}
use native.Mathlib.Omega.{arith}
use borrow.Author.Tests.{ltb-true, ltb-false, le-ltb, le-leb, lt-leb}
use lib.Dec.{leb, ltb}
use lib.IntN.{ℤ, pos, negsuc, neg_ℤ, ◌+ℤ◌, ◌-ℤ◌, +ℤ_assoc, +ℤ_comm, neg_ℤ-+ℤ, neg_ℤ-neg_ℤ}
use lib.Signed.{mag}
use Rattle.sheet.specs.Width.{pick, signed_of}
use Rattle.calc_signed.proofs.ReadBack.{below_zero}

pub dif_add : (a j b k : ℕ) → (pos a -ℤ pos j) +ℤ (pos b -ℤ pos k) ≡ pos (a + b) -ℤ pos (j + k)
dif_add a j b k =
    +ℤ_assoc (pos a) (neg_ℤ (pos j)) (pos b -ℤ pos k)
    ∙ ap (λ (z : ℤ). pos a +ℤ z) (sym (+ℤ_assoc (neg_ℤ (pos j)) (pos b) (neg_ℤ (pos k))) ∙ ap (λ (z : ℤ). z -ℤ pos k) (+ℤ_comm (neg_ℤ (pos j)) (pos b)) ∙ +ℤ_assoc (pos b) (neg_ℤ (pos j)) (neg_ℤ (pos k)))
    ∙ sym (+ℤ_assoc (pos a) (pos b) (neg_ℤ (pos j) -ℤ pos k))
    ∙ ap (λ (z : ℤ). pos (a + b) +ℤ z) (sym (neg_ℤ-+ℤ (pos j) (pos k)))

pub dif_sub : (a j b k : ℕ) → (pos a -ℤ pos j) -ℤ (pos b -ℤ pos k) ≡ pos (a + k) -ℤ pos (j + b)
dif_sub a j b k =
    ap (λ (z : ℤ). (pos a -ℤ pos j) +ℤ z) (neg_ℤ-+ℤ (pos b) (neg_ℤ (pos k)) ∙ ap (λ (z : ℤ). neg_ℤ (pos b) +ℤ z) (neg_ℤ-neg_ℤ (pos k)) ∙ +ℤ_comm (neg_ℤ (pos b)) (pos k))
    ∙ dif_add a j k b

-- a natural is a difference from 0
pub dif_none : (x : ℕ) → pos x ≡ pos x -ℤ pos 0
dif_none x = ap pos (sym (add-zero x))

up : (n k : ℕ) → k ≤ n → pos n -ℤ pos k ≡ pos (n - k)
up n zero h = ap pos (omega arith)
up n (suc k) h = rw (le-ltb n (suc k) h)

pub dif_same : (n k m l : ℕ) → n + l ≡ m + k → pos n -ℤ pos k ≡ pos m -ℤ pos l
dif_same n k m l e = go (ltb n k) refl
  where
    go : (t : Bool) → ltb n k ≡ t → pos n -ℤ pos k ≡ pos m -ℤ pos l
    go true t =
        let h = ltb-true n k t in
        let same : k - suc n ≡ l - suc m = omega arith in
        below_zero n k h ∙ ap negsuc same ∙ sym (below_zero m l (omega arith))
    go false t =
        let h = ltb-false n k t in
        let same : n - k ≡ m - l = omega arith in
        up n k h ∙ ap pos same ∙ sym (up m l (omega arith))

-- ---- against a bound h: below it, or beyond it

module _ (h n k : ℕ) where
  pub stays_up : k ≤ n → n < k + h → leb h (mag (pos n -ℤ pos k)) ≡ false
  stays_up p q = rw (up n k p) (lt-leb h (n - k) (omega arith))

  pub stays_down : n < k → k ≤ n + h → leb h (mag (pos n -ℤ pos k)) ≡ false
  stays_down p q = rw (below_zero n k p) (lt-leb h (k - suc n) (omega arith))

  pub leaves_up : k + h ≤ n → leb h (mag (pos n -ℤ pos k)) ≡ true
  leaves_up p = rw (up n k (omega arith)) (le-leb h (n - k) (omega arith))

  pub leaves_down : n + h < k → leb h (mag (pos n -ℤ pos k)) ≡ true
  leaves_down p = rw (below_zero n k (omega arith)) (le-leb h (k - suc n) (omega arith))

-- what x stands for: 2 h less where its sign is set
pub signed_dif : (h x : ℕ) → signed_of h x ≡ pos x -ℤ pos (pick (leb h x) (2 * h) 0)
unfolding signed_of
signed_dif h x = go (ltb x h) refl
  where
    go : (t : Bool) → ltb x h ≡ t → pick (ltb x h) (pos x) (pos x -ℤ pos (2 * h)) ≡ pos x -ℤ pos (pick (leb h x) (2 * h) 0)
    go true t = rw (t, lt-leb h x (ltb-true x h t)) (dif_none x)
    go false t = rw (t, le-leb h x (ltb-false x h t))
