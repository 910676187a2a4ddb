-- What each function of a line returns, by the tests that it makes. Assumes nothing.
use Prim.Native.Nat.{ℕ, zero, suc, ◌+◌, ◌-◌, ◌%◌, ◌≤◌, ◌<◌}
use mathlib.Core.Path.{◌≡◌, refl, sym}
use mathlib.Core.Bool.{Bool, true, false, ◌&&◌}
use mathlib.Core.List.{List}
use native.Mathlib.Omega.{arith}
use native.Mathlib.Numerals.{add-one, sub-one}
use lib.ListN.{get_or, length, get_or-eq_default}
use lib.Dec.{ltb, eqb}
use borrow.Author.Tests.{lt-ltb, le-ltb, ne_eqb}
use Rattle.hex_form.specs.Line.{all, sum, digit, digit_at, ending, taken}

pub past_the_end : (s : List ℕ) (i : ℕ) → length s ≤ i → 0 ≡ get_or s i 0
past_the_end s i h = sym (get_or-eq_default s 0 h)

-- ---- a digit, by its character

module _ (c : ℕ) where
  pub below_digits : c < 48 → 16 ≡ digit c
  unfolding digit
  below_digits h = rw (lt-ltb c 48 h)

  pub decimal : 48 ≤ c → c < 58 → c - 48 ≡ digit c
  unfolding digit
  decimal h k = rw (le-ltb c 48 h, lt-ltb c 58 k)

  pub below_upper : 58 ≤ c → c < 65 → 16 ≡ digit c
  unfolding digit
  below_upper h k = rw (le-ltb c 48 (omega arith), le-ltb c 58 h, lt-ltb c 65 k)

  pub upper : 65 ≤ c → c < 71 → c - 65 + 10 ≡ digit c
  unfolding digit
  upper h k = rw (le-ltb c 48 (omega arith), le-ltb c 58 (omega arith), le-ltb c 65 h, lt-ltb c 71 k) (omega arith)

  pub below_lower : 71 ≤ c → c < 97 → 16 ≡ digit c
  unfolding digit
  below_lower h k = rw (le-ltb c 48 (omega arith), le-ltb c 58 (omega arith), le-ltb c 65 (omega arith), le-ltb c 71 h, lt-ltb c 97 k)

  pub lower : 97 ≤ c → c < 103 → c - 97 + 10 ≡ digit c
  unfolding digit
  lower h k =
      rw (le-ltb c 48 (omega arith), le-ltb c 58 (omega arith), le-ltb c 65 (omega arith), le-ltb c 71 (omega arith), le-ltb c 97 h, lt-ltb c 103 k) (omega arith)

  pub beyond_digits : 103 ≤ c → 16 ≡ digit c
  unfolding digit
  beyond_digits h =
      rw (le-ltb c 48 (omega arith), le-ltb c 58 (omega arith), le-ltb c 65 (omega arith), le-ltb c 71 (omega arith), le-ltb c 97 (omega arith), le-ltb c 103 h)

-- ---- the walks below k

module _ (f : ℕ → Bool) where
  pub all_none : true ≡ all f 0
  unfolding all
  all_none = refl

  pub all_more : (k : ℕ) → all f (k + 1) ≡ all f k && f k
  unfolding all
  all_more k = rw (add-one k)

module _ (f : ℕ → ℕ) where
  pub sum_none : 0 ≡ sum f 0
  unfolding sum
  sum_none = refl

  pub sum_more : (k b x : ℕ) → b ≡ sum f k → x ≡ f k → (b + x) % 256 ≡ sum f (k + 1)
  unfolding sum
  sum_more k b x e q = rw (add-one k, e, q)

pub digits_more : (s : List ℕ) (k : ℕ) (b : Bool) (c d : ℕ) → b ≡ all (digit_at s) k → c ≡ get_or s (k + 1) 0 → d ≡ digit c → (b && ltb d 16) ≡ all (digit_at s) (k + 1)
unfolding digit_at
digits_more s k b c d e q r = rw (all_more (digit_at s) k, e, r, q)

-- ---- a line's end

module _ (s : List ℕ) (i : ℕ) {c : ℕ} (e : c ≡ get_or s i 0) where
  pub ends_by_lf : c ≡ 10 → 1 ≡ ending s i
  unfolding ending
  ends_by_lf h = rw (← e, h)

  module _ (n : c ≡ 10 → ⊥) {d : ℕ} (f : d ≡ get_or s (i + 1) 0) where
    pub ends_by_cr_lf : (eqb c 13 && eqb d 10) ≡ true → 2 ≡ ending s i
    unfolding ending
    ends_by_cr_lf h = rw (← e, ne_eqb c 10 n, ← f, h)

    pub goes_on : (eqb c 13 && eqb d 10) ≡ false → 0 ≡ ending s i
    unfolding ending
    goes_on h = rw (← e, ne_eqb c 10 n, ← f, h)

-- ---- the kinds that are taken

module _ (k o n : ℕ) where
  pub data_taken : k ≡ 0 → true ≡ taken k o n
  unfolding taken
  data_taken h = rw h

  module _ (d : k ≡ 0 → ⊥) where
    pub offset_given : (o ≡ 0 → ⊥) → false ≡ taken k o n
    unfolding taken
    offset_given h = rw (ne_eqb k 0 d, ne_eqb o 0 h)

    module _ (z : o ≡ 0) where
      pub end_taken : k ≡ 1 → eqb n 0 ≡ taken k o n
      unfolding taken
      end_taken h = rw (h, z)

      pub segment_taken : (k ≡ 1 → ⊥) → (eqb k 2 && eqb n 2) ≡ taken k o n
      unfolding taken
      segment_taken h = rw (ne_eqb k 0 d, z, ne_eqb k 1 h)
