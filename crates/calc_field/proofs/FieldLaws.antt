-- Bit fields: what is put in is what is taken out, the other bits are kept, and a word stays a word.
use mathlib.Core.Path.{◌≡◌, sym, ap, ◌∙◌}
use Prim.Native.Nat.{ℕ, ◌+◌, ◌-◌, ◌*◌, ◌/◌, ◌%◌, ◌^◌, ◌≤◌, ◌<◌}
use native.Mathlib.Nat.{mod-lt, div-one, mul-le-mul_right, mod-eq_of_lt, div-eq_of_lt, add_assoc, zero-add, mul_assoc, add-mul-div_left, add-mul-mod_self_left}
use native.Mathlib.Omega.{arith}
use lib.Pow.{pow_pos, pow-add, shr_lt, high, low, mod-pow-add}
use Rattle.sheet.specs.Fields.{replaced, field_of}

-- the two lower parts of a word of three
lower_lt : (at n b c : ℕ) → b < 2 ^ n → c < 2 ^ at → b * 2 ^ at + c < 2 ^ (at + n)
lower_lt at n b c hb hc = rw (pow-add 2 at n) (omega (arith, mul-le-mul_right (2 ^ at) hb))

module _ (x at n v : ℕ) where
  field_lt : v % 2 ^ n * 2 ^ at + x % 2 ^ at < 2 ^ (at + n)
  field_lt = lower_lt at n (v % 2 ^ n) (x % 2 ^ at) (mod-lt v (pow_pos n)) (mod-lt x (pow_pos at))

  -- as the part above the field and the rest, and as the part from the field on and the rest
  cut_above : replaced x at n v ≡ x / 2 ^ (at + n) * 2 ^ (at + n) + (v % 2 ^ n * 2 ^ at + x % 2 ^ at)
  unfolding replaced
  cut_above = add_assoc _ _ _

  cut_below : replaced x at n v ≡ (x / 2 ^ (at + n) * 2 ^ n + v % 2 ^ n) * 2 ^ at + x % 2 ^ at
  unfolding replaced
  cut_below = omega (arith, ap (λ (p : ℕ). x / 2 ^ (at + n) * p) (pow-add 2 at n))

  -- INS, then EXT, gives the field back
  pub ins_then_ext : field_of (replaced x at n v) at n ≡ v % 2 ^ n
  unfolding field_of
  ins_then_ext =
      rw (cut_below, high (x / 2 ^ (at + n) * 2 ^ n + v % 2 ^ n) at (mod-lt x (pow_pos at)))
      (low (x / 2 ^ (at + n)) n (mod-lt v (pow_pos n)))

  pub keeps_below : replaced x at n v % 2 ^ at ≡ x % 2 ^ at
  keeps_below = rw cut_below (low (x / 2 ^ (at + n) * 2 ^ n + v % 2 ^ n) at (mod-lt x (pow_pos at)))

  pub keeps_above : replaced x at n v / 2 ^ (at + n) ≡ x / 2 ^ (at + n)
  keeps_above = rw cut_above (high (x / 2 ^ (at + n)) (at + n) field_lt)

  pub replaced_lt : (k : ℕ) → x < 2 ^ (k + (at + n)) → replaced x at n v < 2 ^ (k + (at + n))
  replaced_lt k h =
      rw (cut_above, pow-add 2 k (at + n)) (omega (arith, field_lt, mul-le-mul_right (2 ^ (at + n)) (shr_lt {n = x} k (at + n) h)))

  pub word_stays : at + n ≤ 16 → x < 65536 → replaced x at n v < 65536
  word_stays h hx =
      let e : (16 - (at + n)) + (at + n) ≡ 16 = omega arith in
      rw e at (replaced_lt (16 - (at + n)) (rw e hx))

-- the same for a field of m bits in one word and k in the next
module _ (x y v at m k : ℕ) (e : at + m ≡ 16) (hx : x < 65536) where
  first_is : replaced x at m v / 2 ^ at ≡ v % 2 ^ m
  unfolding field_of
  first_is =
      let e' : 16 ≡ m + at = omega arith in
      let h = rw (ap (λ (j : ℕ). 2 ^ j) e') at (word_stays x at m v (omega arith) hx) in
      sym (mod-eq_of_lt (shr_lt m at h)) ∙ ins_then_ext x at m v

  next_is : replaced y 0 k (v / 2 ^ m) % 2 ^ k ≡ v / 2 ^ m % 2 ^ k
  unfolding field_of
  next_is = ap (λ (z : ℕ). z % 2 ^ k) (sym (div-one _)) ∙ ins_then_ext y 0 k (v / 2 ^ m)

  -- what stands above the offset, of both words
  joined : (replaced x at m v + 65536 * replaced y 0 k (v / 2 ^ m)) / 2 ^ at ≡ v % 2 ^ m + 2 ^ m * replaced y 0 k (v / 2 ^ m)
  joined =
      let h = replaced y 0 k (v / 2 ^ m) in
      let p : 65536 ≡ 2 ^ at * 2 ^ m = ap (λ (j : ℕ). 2 ^ j) (sym e) ∙ pow-add 2 at m in
      rw (p, mul_assoc (2 ^ at) (2 ^ m) h, add-mul-div_left (replaced x at m v) (2 ^ m * h) (pow_pos at), first_is)

  pub ins_then_ext_across : field_of (replaced x at m v + 65536 * replaced y 0 k (v / 2 ^ m)) at (k + m) ≡ v % 2 ^ (k + m)
  unfolding field_of
  ins_then_ext_across =
      let h = replaced y 0 k (v / 2 ^ m) in
      let a = v % 2 ^ m in
      let lt = mod-lt v (pow_pos m) in
      rw (joined, mod-pow-add v k m, mod-pow-add (a + 2 ^ m * h) k m, add-mul-div_left a h (pow_pos m), add-mul-mod_self_left a (2 ^ m) h, div-eq_of_lt lt, mod-eq_of_lt lt, zero-add h, next_is)
