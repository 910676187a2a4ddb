-- CY is set exactly where the unsigned result is out of range, and V exactly where the signed one is; in range the value is that result.
use mathlib.Core.Path.{◌≡◌, refl, sym, ap, ◌∙◌}
use mathlib.Core.Bool.{Bool, true, false, not, ◌&&◌, beq, true≢false}
use Prim.Native.Nat.{ℕ, ◌+◌, ◌-◌, ◌*◌, ◌≤◌, ◌<◌}
use native.Mathlib.Nat.{add-zero}
use native.Mathlib.Omega.{arith}
use borrow.Author.Tests.{leb-true, leb-false, ltb-true, ltb-false, le-leb, lt-leb, lt-ltb, le-ltb}
use lib.Dec.{leb, ltb}
use lib.IntN.{ℤ, pos, ◌+ℤ◌, ◌-ℤ◌}
use lib.Signed.{mag}
use Rattle.sheet.specs.Width.{pick, mod_of, half_of, wrap_of, sign_of, signed_of}
use Rattle.sheet.specs.Psw.{bit, becomes}
use Rattle.sheet.specs.Arithmetic.{Result, resulting, sum, difference}
use Rattle.calc_word.proofs.WidthLaws.{mod_half}
use Rattle.sheet.proofs.PswLaws.{bit_le}
use Rattle.calc_arith.proofs.Differences.{dif_add, dif_sub, dif_none, dif_same, stays_up, stays_down, leaves_up, leaves_down, signed_dif}

-- ---- unsigned: CY is the digit in front of the value

-- a sum of n
pub record Carries (w : Bool) (n : ℕ) (r : Result) : Type 0 where
  pub cy : r.column.cy ≡ becomes (leb (mod_of w) n)
  pub value : r.value + pick (leb (mod_of w) n) (mod_of w) 0 ≡ n

-- n less k
pub record Borrows (w : Bool) (n k : ℕ) (r : Result) : Type 0 where
  pub cy : r.column.cy ≡ becomes (ltb n k)
  pub value : r.value + k ≡ n + pick (ltb n k) (mod_of w) 0

wrap_sum : (w : Bool) (n : ℕ) → n < 2 * mod_of w → wrap_of w n + pick (leb (mod_of w) n) (mod_of w) 0 ≡ n
unfolding wrap_of
wrap_sum w n h = go w (leb (mod_of w) n) refl h
  where
    go : (w : Bool) (t : Bool) → leb (mod_of w) n ≡ t → n < 2 * mod_of w → wrap_of w n + pick t (mod_of w) 0 ≡ n
    go true true e l = omega (arith, leb-true 65536 n e)
    go true false e l = omega (arith, leb-false 65536 n e)
    go false true e l = omega (arith, leb-true 256 n e)
    go false false e l = omega (arith, leb-false 256 n e)

wrap_difference : (w : Bool) (n k : ℕ) → n < mod_of w → k ≤ mod_of w → wrap_of w (131072 + n - k) + k ≡ n + pick (ltb n k) (mod_of w) 0
unfolding wrap_of
wrap_difference w n k h l = go w (ltb n k) refl h l
  where
    go : (w : Bool) (t : Bool) → ltb n k ≡ t → n < mod_of w → k ≤ mod_of w → wrap_of w (131072 + n - k) + k ≡ n + pick t (mod_of w) 0
    go true true e h l = omega (arith, ltb-true n k e)
    go true false e h l = omega (arith, ltb-false n k e)
    go false true e h l = omega (arith, ltb-true n k e)
    go false false e h l = omega (arith, ltb-false n k e)

module _ (w : Bool) (a b : ℕ) (c : Bool) (ha : a < mod_of w) (hb : b < mod_of w) where
  pub sum_carries : Carries w (a + b + bit c) (sum w a b c)
  unfolding sum resulting
  sum_carries = record { cy = refl; value = wrap_sum w (a + b + bit c) (omega (arith, bit_le c)) }

  pub difference_borrows : Borrows w a (b + bit c) (difference w a b c)
  unfolding difference resulting
  difference_borrows = record { cy = refl; value = wrap_difference w a (b + bit c) ha (omega (arith, bit_le c)) }

-- ---- signed: V is set where the result z does not fit

pub record Overflows (w : Bool) (z : ℤ) (r : Result) : Type 0 where
  pub v : r.column.v ≡ becomes (leb (half_of w) (mag z))
  pub value : leb (half_of w) (mag z) ≡ false → signed_of (half_of w) r.value ≡ z

-- the same with z as n less k, and r as what stands for it
record Agrees (h n k r : ℕ) (v : Bool) : Type 0 where
  is : v ≡ leb h (mag (pos n -ℤ pos k))
  value : leb h (mag (pos n -ℤ pos k)) ≡ false → r + k ≡ n + pick (leb h r) (2 * h) 0

module _ {h n k r : ℕ} where
  beyond : leb h (mag (pos n -ℤ pos k)) ≡ true → Agrees h n k r true
  beyond p = record { is = sym p; value = λ q. absurd (true≢false (sym p ∙ q)) }

  within_low : leb h (mag (pos n -ℤ pos k)) ≡ false → r < h → r + k ≡ n → Agrees h n k r false
  within_low p l e = record { is = sym p; value = λ _. rw (lt-leb h r l) (e ∙ sym (add-zero n)) }

  within_high : leb h (mag (pos n -ℤ pos k)) ≡ false → h ≤ r → r + k ≡ n + 2 * h → Agrees h n k r false
  within_high p l e = record { is = sym p; value = λ _. rw (le-leb h r l) e }

module _ (h a b n r : ℕ) (ha : a < 2 * h) (hb : b < 2 * h) (l : a + b ≤ n) (u : n ≤ a + b + 1) (e : r + pick (leb (2 * h) n) (2 * h) 0 ≡ n) where
  sum_plain : n < 2 * h → r ≡ n
  sum_plain p = sym (add-zero r) ∙ rw (lt-leb (2 * h) n p) at e

  sum_wrapped : 2 * h ≤ n → r + 2 * h ≡ n
  sum_wrapped p = rw (le-leb (2 * h) n p) at e

  sum_low : a < h → b < h → (s : Bool) → leb h r ≡ s → Agrees h n (0 + 0) r (not (beq s false))
  sum_low p q true s =
      let x = sum_plain (omega arith) in
      let y = leb-true h r s in
      beyond (leaves_up h n 0 (omega arith))
  sum_low p q false s =
      let x = sum_plain (omega arith) in
      let y = leb-false h r s in
      within_low (stays_up h n 0 (omega arith) (omega arith)) y (omega arith)

  sum_high : h ≤ a → h ≤ b → (s : Bool) → leb h r ≡ s → Agrees h n (2 * h + 2 * h) r (not (beq s true))
  sum_high p q true s =
      let x = sum_wrapped (omega arith) in
      let y = leb-true h r s in
      within_high (stays_down h n (2 * h + 2 * h) (omega arith) (omega arith)) y (omega arith)
  sum_high p q false s =
      let x = sum_wrapped (omega arith) in
      let y = leb-false h r s in
      beyond (leaves_down h n (2 * h + 2 * h) (omega arith))

  sum_mixed : (k : ℕ) → k ≡ 2 * h → h ≤ a + b → a + b + 1 < 3 * h → (t : Bool) → leb (2 * h) n ≡ t → Agrees h n k r false
  sum_mixed k f p q true t =
      let y = leb-true (2 * h) n t in
      let x = sum_wrapped y in
      within_low (stays_up h n k (omega arith) (omega arith)) (omega arith) (omega arith)
  sum_mixed k f p q false t =
      let y = leb-false (2 * h) n t in
      let x = sum_plain y in
      within_high (stays_down h n k (omega arith) (omega arith)) (omega arith) (omega arith)

  sum_agrees : (s t : Bool) → leb h a ≡ s → leb h b ≡ t → Agrees h n (pick s (2 * h) 0 + pick t (2 * h) 0) r (beq s t && not (beq (leb h r) s))
  sum_agrees true true p q = sum_high (leb-true h a p) (leb-true h b q) (leb h r) refl
  sum_agrees true false p q =
      let x = leb-true h a p in
      let y = leb-false h b q in
      sum_mixed (2 * h + 0) (add-zero _) (omega arith) (omega arith) (leb (2 * h) n) refl
  sum_agrees false true p q =
      let x = leb-false h a p in
      let y = leb-true h b q in
      sum_mixed (0 + 2 * h) (omega arith) (omega arith) (omega arith) (leb (2 * h) n) refl
  sum_agrees false false p q = sum_low (leb-false h a p) (leb-false h b q) (leb h r) refl

module _ (h a b c r : ℕ) (ha : a < 2 * h) (hb : b < 2 * h) (hc : c ≤ 1) (e : r + (b + c) ≡ a + pick (ltb a (b + c)) (2 * h) 0) where
  difference_plain : b + c ≤ a → r + (b + c) ≡ a
  difference_plain p = rw (le-ltb a (b + c) p) at e ∙ add-zero a

  difference_wrapped : a < b + c → r + (b + c) ≡ a + 2 * h
  difference_wrapped p = rw (lt-ltb a (b + c) p) at e

  difference_alike : (n k : ℕ) → n + (b + c) ≡ k + a → a < h + b → b + c ≤ a + h → (t : Bool) → ltb a (b + c) ≡ t → Agrees h n k r false
  difference_alike n k f p q true t =
      let y = ltb-true a (b + c) t in
      let x = difference_wrapped y in
      within_high (stays_down h n k (omega arith) (omega arith)) (omega arith) (omega arith)
  difference_alike n k f p q false t =
      let y = ltb-false a (b + c) t in
      let x = difference_plain y in
      within_low (stays_up h n k (omega arith) (omega arith)) (omega arith) (omega arith)

  difference_up : a < h → h ≤ b → (s : Bool) → leb h r ≡ s → Agrees h (a + 2 * h) (0 + b + c) r (beq s true)
  difference_up p q true s =
      let x = difference_wrapped (omega arith) in
      let y = leb-true h r s in
      beyond (leaves_up h (a + 2 * h) (0 + b + c) (omega arith))
  difference_up p q false s =
      let x = difference_wrapped (omega arith) in
      let y = leb-false h r s in
      within_low (stays_up h (a + 2 * h) (0 + b + c) (omega arith) (omega arith)) y (omega arith)

  difference_down : h ≤ a → b < h → (s : Bool) → leb h r ≡ s → Agrees h (a + 0) (2 * h + b + c) r (beq s false)
  difference_down p q true s =
      let x = difference_plain (omega arith) in
      let y = leb-true h r s in
      within_high (stays_down h (a + 0) (2 * h + b + c) (omega arith) (omega arith)) y (omega arith)
  difference_down p q false s =
      let x = difference_plain (omega arith) in
      let y = leb-false h r s in
      beyond (leaves_down h (a + 0) (2 * h + b + c) (omega arith))

  difference_agrees : (s t : Bool) → leb h a ≡ s → leb h b ≡ t → Agrees h (a + pick t (2 * h) 0) (pick s (2 * h) 0 + b + c) r (not (beq s t) && beq (leb h r) t)
  difference_agrees true true p q =
      let x = leb-true h a p in
      let y = leb-true h b q in
      difference_alike (a + 2 * h) (2 * h + b + c) (omega arith) (omega arith) (omega arith) (ltb a (b + c)) refl
  difference_agrees true false p q = difference_down (leb-true h a p) (leb-false h b q) (leb h r) refl
  difference_agrees false true p q = difference_up (leb-false h a p) (leb-true h b q) (leb h r) refl
  difference_agrees false false p q =
      let x = leb-false h a p in
      let y = leb-false h b q in
      difference_alike (a + 0) (0 + b + c) (omega arith) (omega arith) (omega arith) (ltb a (b + c)) refl

-- what n less k and r agree on, for a result
overflows : (w : Bool) (n k : ℕ) (z : ℤ) (r : Result) (v : Bool) → z ≡ pos n -ℤ pos k → r.column.v ≡ becomes v → Agrees (half_of w) n k r.value v → Overflows w z r
overflows w n k z r v e f g =
    record {
      v = rw e (f ∙ ap becomes g.is);
      value = λ p. signed_dif (half_of w) r.value ∙ rw e (dif_same r.value (pick (leb (half_of w) r.value) (2 * half_of w) 0) n k (g.value (rw e at p)));
    }

module _ (w : Bool) (a b : ℕ) (c : Bool) (ha : a < mod_of w) (hb : b < mod_of w) where
  pub sum_overflows : Overflows w (signed_of (half_of w) a +ℤ signed_of (half_of w) b +ℤ pos (bit c)) (sum w a b c)
  unfolding sum resulting sign_of
  sum_overflows =
      let h : ℕ = half_of w in
      let ka : ℕ = pick (leb h a) (2 * h) 0 in
      let kb : ℕ = pick (leb h b) (2 * h) 0 in
      overflows w (a + b + bit c) (ka + kb) _ (sum w a b c) _
      (rw (signed_dif h a, signed_dif h b, dif_add a ka b kb, dif_none (bit c), dif_add (a + b) (ka + kb) (bit c) 0, add-zero (ka + kb)))
      refl
      (sum_agrees h a b (a + b + bit c) (sum w a b c).value (rw (mod_half w) at ha) (rw (mod_half w) at hb) (omega arith) (omega (arith, bit_le c)) (rw (mod_half w) at (sum_carries w a b c ha hb).value) (leb h a) (leb h b) refl refl)

  pub difference_overflows : Overflows w (signed_of (half_of w) a -ℤ signed_of (half_of w) b -ℤ pos (bit c)) (difference w a b c)
  unfolding difference resulting sign_of
  difference_overflows =
      let h : ℕ = half_of w in
      let ka : ℕ = pick (leb h a) (2 * h) 0 in
      let kb : ℕ = pick (leb h b) (2 * h) 0 in
      overflows w (a + kb) (ka + b + bit c) _ (difference w a b c) _
      (rw (signed_dif h a, signed_dif h b, dif_sub a ka b kb, dif_none (bit c), dif_sub (a + kb) (ka + b) (bit c) 0, add-zero (a + kb)))
      refl
      (difference_agrees h a b (bit c) (difference w a b c).value (rw (mod_half w) at ha) (rw (mod_half w) at hb) (bit_le c) (rw (mod_half w) at (difference_borrows w a b c ha hb).value) (leb h a) (leb h b) refl refl)
