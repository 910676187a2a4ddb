-- Two lines of data under one segment may change places. Assumes nothing.
use Prim.Native.Nat.{ℕ, zero, suc, ◌+◌, ◌-◌, ◌*◌, ◌<◌}
use mathlib.Core.Path.{◌≡◌, refl, sym, ◌∙◌}
use mathlib.Core.Bool.{Bool, true, false, ◌&&◌, and-eq-true_iff}
use mathlib.Core.List.{List, [], ◌∷◌, ◌++◌, append_assoc}
use native.Mathlib.Nat.{not-suc-le-zero}
use native.Mathlib.Omega.{arith}
use lib.ListN.{length, get_or, drop, length-append, get_or-append}
use lib.Seq.{drop_at}
use lib.Dec.{eqb, ltb}
use borrow.Author.Tests.{eqb-false, ltb-true}
use Rattle.sheet.specs.Width.{pick}
use Rattle.hex_form.specs.Line.{all, digit_at, byte, size, offset, kind, ending, width, span, taken, written, formed, summed}
use Rattle.hex_form.specs.Reading.{place, lands_in, lands, fault, segment_after, verdict_from, Store, store_at, first_stores, line_stores, stores_from, applied}
use Rattle.hex_form.proofs.Walk.{line_and_rest, line_and_stores}
use Rattle.hex_form.proofs.Stores.{applied_append}
use Rattle.hex_form.proofs.LineBack.{sum_alike}
use Rattle.hex_form.proofs.Meaning.{Apart, any_order}

all_alike : (f g : ℕ → Bool) (k : ℕ) → ((i : ℕ) → i < k → f i ≡ g i) → all f k ≡ all g k
unfolding all
all_alike f g zero e = refl
all_alike f g (suc k) e = rw (all_alike f g k (λ i h. e i (omega arith)), e k (omega arith))

stores_alike : (f g : ℕ → Store) (k : ℕ) → ((i : ℕ) → i < k → f i ≡ g i) → first_stores f k ≡ first_stores g k
unfolding first_stores
stores_alike f g zero e = refl
stores_alike f g (suc k) e = rw (stores_alike f g k (λ i h. e i (omega arith)), e k (omega arith))

-- a text that is one line of data
pub record DataLine (x : List ℕ) : Type 0 where
  pub forms : formed x ≡ true
  pub spans : span x ≡ length x
  pub kinds : kind x ≡ 0

-- ---- what stands behind a line changes nothing in it

module _ (x t : List ℕ) (d : DataLine x) where
  ends : 0 < ending x (width x)
  unfolding formed written
  ends =
      let w = ((and-eq-true_iff (eqb (get_or x 0 0) 58 && (all (digit_at x) (2 * size x + 10) && ltb 0 (ending x (width x)))) (taken (kind x) (offset x) (size x))).0 d.forms).0 in
      let v = ((and-eq-true_iff (eqb (get_or x 0 0) 58) (all (digit_at x) (2 * size x + 10) && ltb 0 (ending x (width x)))).0 w).1 in
      ltb-true 0 (ending x (width x)) ((and-eq-true_iff (all (digit_at x) (2 * size x + 10)) (ltb 0 (ending x (width x)))).0 v).1

  long : 2 * size x + 11 + ending x (width x) ≡ length x
  unfolding span width
  long = d.spans

  char : (i : ℕ) → i < length x → get_or (x ++ t) i 0 ≡ get_or x i 0
  char i h = get_or-append x t 0 i h

  byte_same : (i : ℕ) → i < size x + 5 → byte (x ++ t) i ≡ byte x i
  unfolding byte
  byte_same i h = rw (char (2 * i + 1) (omega (arith, long, ends)), char (2 * i + 2) (omega (arith, long, ends)))

  size_same : size (x ++ t) ≡ size x
  unfolding size
  size_same = byte_same 0 (omega arith)

  offset_same : offset (x ++ t) ≡ offset x
  unfolding offset
  offset_same = rw (byte_same 1 (omega arith), byte_same 2 (omega arith))

  kind_same : kind (x ++ t) ≡ kind x
  unfolding kind
  kind_same = byte_same 3 (omega arith)

  width_same : width (x ++ t) ≡ width x
  unfolding width
  width_same = rw size_same

  width_more : width x + ending x (width x) ≡ length x
  unfolding span
  width_more = d.spans

  no_end : {A : Type 0} → ◌≡◌ {A = ℕ} (pick (eqb (get_or x (width x) 0) 10) 1 (pick (eqb (get_or x (width x) 0) 13 && eqb (get_or x (width x + 1) 0) 10) 2 0)) 0 → A
  unfolding ending
  no_end z = let k = ends in absurd (not-suc-le-zero (rw z at k))

  lf : eqb (get_or x (width x) 0) 10 ≡ true → ending (x ++ t) (width x) ≡ ending x (width x)
  unfolding ending
  lf e = rw (char (width x) (omega (arith, width_more, ends)), e)

  cr_lf : eqb (get_or x (width x) 0) 10 ≡ false → eqb (get_or x (width x) 0) 13 ≡ true → eqb (get_or x (width x + 1) 0) 10 ≡ true → ending (x ++ t) (width x) ≡ ending x (width x)
  unfolding ending
  cr_lf e f g =
      let two : ending x (width x) ≡ 2 = rw (e, f, g) in
      rw (char (width x) (omega (arith, width_more, two)), char (width x + 1) (omega (arith, width_more, two)))

  ending_same : ending (x ++ t) (width x) ≡ ending x (width x)
  ending_same = go (eqb (get_or x (width x) 0) 10) (eqb (get_or x (width x) 0) 13) (eqb (get_or x (width x + 1) 0) 10) refl refl refl
    where
      go : (a b c : Bool) → eqb (get_or x (width x) 0) 10 ≡ a → eqb (get_or x (width x) 0) 13 ≡ b → eqb (get_or x (width x + 1) 0) 10 ≡ c → ending (x ++ t) (width x) ≡ ending x (width x)
      go true b c e f g = lf e
      go false true true e f g = cr_lf e f g
      go false true false e f g = no_end (rw (e, f, g))
      go false false c e f g = no_end (rw (e, f))

  span_same : span (x ++ t) ≡ length x
  unfolding span
  span_same = rw (width_same, ending_same) width_more

  rest_same : drop (span (x ++ t)) (x ++ t) ≡ t
  rest_same = drop_at x t (span (x ++ t)) (sym span_same)

  some : 0 < length (x ++ t)
  some = omega (arith, length-append x t, width_more, ends)

  written_same : written (x ++ t) ≡ written x
  unfolding written digit_at
  written_same =
      rw (width_same, ending_same, size_same, char 0 (omega (arith, long)), all_alike (digit_at (x ++ t)) (digit_at x) (2 * size x + 10) (λ i h. rw (char (i + 1) (omega (arith, long, ends)))))

  formed_same : formed (x ++ t) ≡ formed x
  unfolding formed
  formed_same = rw (written_same, kind_same, offset_same, size_same)

  summed_same : summed (x ++ t) ≡ summed x
  unfolding summed
  summed_same = rw (size_same, sum_alike (byte (x ++ t)) (byte x) (size x + 5) byte_same)

  place_same : (g i : ℕ) → place g (x ++ t) i ≡ place g x i
  unfolding place
  place_same g i = rw offset_same

  lands_same : (base n g : ℕ) → lands base n g (x ++ t) ≡ lands base n g x
  unfolding lands lands_in
  lands_same base n g = rw (kind_same, size_same, all_alike (lands_in base n g (x ++ t)) (lands_in base n g x) (size x) (λ i h. rw (place_same g i)))

  fault_same : (base n g : ℕ) → fault base n g (x ++ t) ≡ fault base n g x
  unfolding fault
  fault_same base n g = rw (formed_same, summed_same, lands_same base n g)

  stores_same : (g : ℕ) → line_stores g (x ++ t) ≡ line_stores g x
  unfolding line_stores store_at
  stores_same g = rw (kind_same, size_same, stores_alike (store_at g (x ++ t)) (store_at g x) (size x) (λ i h. rw (place_same g i, byte_same (i + 4) (omega arith))))

  not_end : kind (x ++ t) ≡ 1 → ⊥
  not_end z = eqb-false 0 1 refl (sym (kind_same ∙ d.kinds) ∙ z)

  segment_same : (g : ℕ) → segment_after g (x ++ t) ≡ g
  unfolding segment_after
  segment_same g = rw (kind_same, d.kinds)

  -- a good line of data is passed
  says : (base n g l : ℕ) → fault base n g x ≡ 0 → verdict_from base n g l 0 (x ++ t) ≡ verdict_from base n g (l + 1) 0 t
  says base n g l f = line_and_rest base n g l (x ++ t) some (fault_same base n g ∙ f) not_end ∙ rw (segment_same g, rest_same)

  gives : (g : ℕ) → stores_from g 0 (x ++ t) ≡ line_stores g x ++ stores_from g 0 t
  gives g = line_and_stores g (x ++ t) some not_end ∙ rw (stores_same g, segment_same g, rest_same)

-- ---- two lines change places

module _ (base n g l : ℕ) (x y t : List ℕ) (d : DataLine x) (e : DataLine y) (p : fault base n g x ≡ 0) (q : fault base n g y ≡ 0) where
  pub order_verdict : verdict_from base n g l 0 (x ++ (y ++ t)) ≡ verdict_from base n g l 0 (y ++ (x ++ t))
  order_verdict =
      (says x (y ++ t) d base n g l p ∙ says y t e base n g (l + 1) q)
      ∙ sym (says y (x ++ t) e base n g l q ∙ says x t d base n g (l + 1) p)

  pub order_image : Apart (line_stores g x) (line_stores g y) → (image : List ℕ) → applied base (stores_from g 0 (x ++ (y ++ t))) image ≡ applied base (stores_from g 0 (y ++ (x ++ t))) image
  order_image a image =
      let u = line_stores g x in
      let v = line_stores g y in
      let w = stores_from g 0 t in
      rw (gives x (y ++ t) d g, gives y t e g, gives y (x ++ t) e g, gives x t d g, ← append_assoc u v w, ← append_assoc v u w, applied_append base (u ++ v) w image, applied_append base (v ++ u) w image, any_order base image a)

-- ---- any number of lines, in any order

-- lines one after the other, and t behind them
abbrev pub joined : List (List ℕ) → List ℕ → List ℕ
joined [] t = t
joined (x ∷ l) t = x ++ joined l t

-- lines of data brought into another order by neighbours that change places, which have no address in common
pub data Moved (base n g : ℕ) : List (List ℕ) → List (List ℕ) → Type 0 where
  stays : {l : List (List ℕ)} → Moved base n g l l
  swaps : {x y : List ℕ} {l : List (List ℕ)} → DataLine x → DataLine y → fault base n g x ≡ 0 → fault base n g y ≡ 0 → Apart (line_stores g x) (line_stores g y) → Moved base n g (x ∷ (y ∷ l)) (y ∷ (x ∷ l))
  under : {x : List ℕ} {l m : List (List ℕ)} → DataLine x → fault base n g x ≡ 0 → Moved base n g l m → Moved base n g (x ∷ l) (x ∷ m)
  thens : {l m k : List (List ℕ)} → Moved base n g l m → Moved base n g m k → Moved base n g l k

pub moved_verdict : (base n g i : ℕ) (t : List ℕ) {l m : List (List ℕ)} → Moved base n g l m → verdict_from base n g i 0 (joined l t) ≡ verdict_from base n g i 0 (joined m t)
moved_verdict base n g i t stays = refl
moved_verdict base n g i t (swaps {x = x} {y = y} {l = l} d e p q a) = order_verdict base n g i x y (joined l t) d e p q
moved_verdict base n g i t (under {x = x} {l = l} {m = m} d p r) =
    says x (joined l t) d base n g i p ∙ (moved_verdict base n g (i + 1) t r ∙ sym (says x (joined m t) d base n g i p))
moved_verdict base n g i t (thens r s) = moved_verdict base n g i t r ∙ moved_verdict base n g i t s

pub moved_image : (base n g : ℕ) (t image : List ℕ) {l m : List (List ℕ)} → Moved base n g l m → applied base (stores_from g 0 (joined l t)) image ≡ applied base (stores_from g 0 (joined m t)) image
moved_image base n g t image stays = refl
moved_image base n g t image (swaps {x = x} {y = y} {l = l} d e p q a) = order_image base n g 0 x y (joined l t) d e p q a image
moved_image base n g t image (under {x = x} {l = l} {m = m} d p r) =
    let u = line_stores g x in
    rw (gives x (joined l t) d g, gives x (joined m t) d g, applied_append base u (stores_from g 0 (joined l t)) image, applied_append base u (stores_from g 0 (joined m t)) image)
    (moved_image base n g t (applied base u image) r)
moved_image base n g t image (thens r s) = moved_image base n g t image r ∙ moved_image base n g t image s
