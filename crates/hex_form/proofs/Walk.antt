-- A text is read line by line: what a line does, and where the next one begins. Assumes nothing.
use Prim.Native.Nat.{ℕ, zero, suc, ◌+◌, ◌-◌, ◌*◌, ◌≤◌, ◌<◌}
use mathlib.Core.Path.{◌≡◌, refl, sym, ◌∙◌}
use mathlib.Core.Bool.{Bool, true, false, ◌&&◌, and-eq-true_iff}
use mathlib.Core.List.{List, [], ◌∷◌, ◌++◌}
use native.Mathlib.Nat.{not-suc-le-zero}
use native.Mathlib.Numerals.{sub-one}
use native.Mathlib.Omega.{arith}
use lib.ListN.{length, get_or, drop, get_or-eq_default}
use lib.Dec.{eqb, ltb}
use borrow.Author.Tests.{eqb-true, eqb-false, ne_eqb, ltb-true, ltb-false}
use Rattle.sheet.specs.Width.{pick}
use Rattle.hex_form.specs.Line.{all, digit_at, size, offset, kind, ending, width, span, taken, written, formed, summed}
use Rattle.hex_form.specs.Reading.{lands, fault, segment_after, verdict, verdict_from, line_stores, stores_from}

-- ---- a line lies in its text

pub span_some : (s : List ℕ) → 2 ≤ span s
unfolding span width
span_some s = omega arith

-- a character that is not 0 stands in the text
there : (s : List ℕ) (i : ℕ) → (get_or s i 0 ≡ 0 → ⊥) → i < length s
there s i n = go (ltb i (length s)) refl
  where
    go : (t : Bool) → ltb i (length s) ≡ t → i < length s
    go true e = ltb-true i (length s) e
    go false e = absurd (n (get_or-eq_default s 0 (ltb-false i (length s) e)))

ending_there : (s : List ℕ) (i : ℕ) → 0 < ending s i → i + ending s i ≤ length s
unfolding ending
ending_there s i = go (eqb (get_or s i 0) 10) (eqb (get_or s i 0) 13) (eqb (get_or s (i + 1) 0) 10) refl refl refl
  where
    is : (j x : ℕ) (t : Bool) → eqb (get_or s j 0) (suc x) ≡ true → j < length s
    is j x t e = there s j λ z. let h : ◌≡◌ {A = ℕ} 0 (suc x) = sym z ∙ eqb-true (get_or s j 0) (suc x) e in omega arith

    go : (a b c : Bool) → eqb (get_or s i 0) 10 ≡ a → eqb (get_or s i 0) 13 ≡ b → eqb (get_or s (i + 1) 0) 10 ≡ c
        → 0 < pick a 1 (pick (b && c) 2 0) → i + pick a 1 (pick (b && c) 2 0) ≤ length s
    go true b c e f g h = let k = is i 9 true e in omega arith
    go false true true e f g h = let k = is (i + 1) 9 true g in omega arith
    go false true false e f g h = absurd (not-suc-le-zero h)
    go false false c e f g h = absurd (not-suc-le-zero h)

pub span_there : (s : List ℕ) → formed s ≡ true → span s ≤ length s
unfolding formed written span
span_there s e =
    let w = ((and-eq-true_iff (eqb (get_or s 0 0) 58 && (all (digit_at s) (2 * size s + 10) && ltb 0 (ending s (width s)))) (taken (kind s) (offset s) (size s))).0 e).0 in
    let x = ((and-eq-true_iff (eqb (get_or s 0 0) 58) (all (digit_at s) (2 * size s + 10) && ltb 0 (ending s (width s)))).0 w).1 in
    let y = ((and-eq-true_iff (all (digit_at s) (2 * size s + 10)) (ltb 0 (ending s (width s)))).0 x).1 in
    ending_there s (width s) (ltb-true 0 (ending s (width s)) y)

-- a line without a fault is formed
pub good_formed : (base n g : ℕ) (s : List ℕ) → fault base n g s ≡ 0 → formed s ≡ true
unfolding fault
good_formed base n g s = go (formed s)
  where
    go : (t : Bool) → ◌≡◌ {A = ℕ} (pick t (pick (summed s) (pick (lands base n g s) 0 12) 11) 10) 0 → t ≡ true
    go true e = refl
    go false e = absurd (eqb-false 10 0 refl e)

-- ---- the walk

-- what is left of a line is skipped
drop_front : (c : ℕ) (t : List ℕ) (k : ℕ) → 0 < k → drop (k - 1) t ≡ drop k (c ∷ t)
drop_front c t zero h = absurd (not-suc-le-zero h)
drop_front c t (suc k) h = rw (sub-one (suc k))

verdict_skips : (base n g l k : ℕ) (s : List ℕ) → verdict_from base n g l k s ≡ verdict_from base n g l 0 (drop k s)
unfolding verdict_from
verdict_skips base n g l zero [] = refl
verdict_skips base n g l (suc k) [] = refl
verdict_skips base n g l zero (c ∷ t) = refl
verdict_skips base n g l (suc k) (c ∷ t) = verdict_skips base n g l k t

stores_skip : (g k : ℕ) (s : List ℕ) → stores_from g k s ≡ stores_from g 0 (drop k s)
unfolding stores_from
stores_skip g zero [] = refl
stores_skip g (suc k) [] = refl
stores_skip g zero (c ∷ t) = refl
stores_skip g (suc k) (c ∷ t) = stores_skip g k t

pub no_stores : (g : ℕ) → stores_from g 0 [] ≡ []
unfolding stores_from
no_stores g = refl

pub end_stores : (g : ℕ) (s : List ℕ) → kind s ≡ 1 → stores_from g 0 s ≡ []
unfolding stores_from line_stores
end_stores g [] k = refl
end_stores g (c ∷ t) k = rw k

pub line_and_stores : (g : ℕ) (s : List ℕ) → 0 < length s → (kind s ≡ 1 → ⊥) → stores_from g 0 s ≡ line_stores g s ++ stores_from (segment_after g s) 0 (drop (span s) s)
unfolding stores_from
line_and_stores g [] h k = absurd (not-suc-le-zero h)
line_and_stores g (c ∷ t) h k =
    rw (ne_eqb (kind (c ∷ t)) 1 k, stores_skip (segment_after g (c ∷ t)) (span (c ∷ t) - 1) t, drop_front c t (span (c ∷ t)) (omega (arith, span_some (c ∷ t))))

module _ (base n g l : ℕ) where
  pub no_line : verdict_from base n g l 0 [] ≡ verdict 10 l
  unfolding verdict_from
  no_line = refl

  pub faulty_line : (s : List ℕ) → 0 < length s → (fault base n g s ≡ 0 → ⊥) → verdict_from base n g l 0 s ≡ verdict (fault base n g s) l
  unfolding verdict_from
  faulty_line [] h f = absurd (not-suc-le-zero h)
  faulty_line (c ∷ t) h f = rw (ne_eqb (fault base n g (c ∷ t)) 0 f)

  pub end_line : (s : List ℕ) → 0 < length s → fault base n g s ≡ 0 → kind s ≡ 1
      → verdict_from base n g l 0 s ≡ pick (eqb (length s) (span s)) (verdict 0 0) (verdict 10 (l + 1))
  unfolding verdict_from
  end_line [] h f k = absurd (not-suc-le-zero h)
  end_line (c ∷ t) h f k = rw (f, k)

  pub line_and_rest : (s : List ℕ) → 0 < length s → fault base n g s ≡ 0 → (kind s ≡ 1 → ⊥)
      → verdict_from base n g l 0 s ≡ verdict_from base n (segment_after g s) (l + 1) 0 (drop (span s) s)
  unfolding verdict_from
  line_and_rest [] h f k = absurd (not-suc-le-zero h)
  line_and_rest (c ∷ t) h f k =
      rw (f, ne_eqb (kind (c ∷ t)) 1 k, verdict_skips base n (segment_after g (c ∷ t)) (l + 1) (span (c ∷ t) - 1) t, drop_front c t (span (c ∷ t)) (omega (arith, span_some (c ∷ t))))
