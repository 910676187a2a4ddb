-- The bytes of a text stored, line by line. Assumes nothing.
use Prim.Native.Nat.{ℕ, zero, suc, ◌+◌, ◌-◌, ◌≤◌, ◌<◌, zero-le}
use mathlib.Core.Path.{◌≡◌, refl, sym, ap, ◌∙◌}
use mathlib.Core.Bool.{Bool, true, false, ◌&&◌, and-eq-true_iff}
use mathlib.Core.List.{List, [], ◌∷◌, ◌++◌}
use native.Mathlib.Omega.{arith}
use native.Mathlib.Numerals.{add-one}
use Rattle.sheet.specs.declared.Refusal.{Refusal}
use Rattle.sheet.specs.Refusals.{refusal_number}
use Rattle.sheet.proofs.RefusalLaws.{refusal_some}
use lib.ListN.{length, take, drop, set, length-drop, drop_of_length-le}
use lib.Seq.{drop-drop}
use lib.Dec.{eqb, leb, ltb}
use borrow.Author.Tests.{leb-true, ltb-true, eqb-true, eqb-false, ne_eqb}
use Rattle.base_laws.proofs.Parts.{rest}
use Rattle.hex_form.specs.Line.{byte, size, kind, span}
use Rattle.hex_form.specs.Reading.{place, inside, fault, verdict, number_of, verdict_from, verdict_of, Store, store, store_at, first_stores, line_stores, stores_from, stores_of, stored, applied, Passes, Reads}
use Rattle.hex_form.proofs.Walk.{span_some, span_there, good_formed, faulty_line, line_and_rest, no_stores, end_stores, line_and_stores}
use Rattle.hex_form.proofs.Stores.{applied_append, same_length}
use Rattle.hex_fault.proofs.Laws.{segment_small}

-- ---- one byte

module _ (base a v : ℕ) (image : List ℕ) {b : Bool} (e : b ≡ inside base (length image) a) where
  pub first_known : b ≡ true → base ≤ a
  unfolding inside
  first_known t = leb-true base a ((and-eq-true_iff (leb base a) _).0 (sym e ∙ t)).0

  pub place_known : b ≡ true → a - base < length image
  unfolding inside
  place_known t =
      let y = ((and-eq-true_iff (leb base a) (ltb a (base + length image) && ltb a 1048576)).0 (sym e ∙ t)).1 in
      let z = ltb-true a (base + length image) ((and-eq-true_iff (ltb a (base + length image)) (ltb a 1048576)).0 y).0 in
      let p = first_known t in
      omega arith

  pub byte_stored : b ≡ true → set image (a - base) v ≡ stored base (store a v) image
  unfolding stored
  byte_stored t = rw (← e, t)

  pub byte_dropped : b ≡ false → image ≡ stored base (store a v) image
  unfolding stored
  byte_dropped f = rw (← e, f)

-- ---- one line

pub none_stored : (base : ℕ) (f : ℕ → Store) (image : List ℕ) → image ≡ applied base (first_stores f 0) image
unfolding first_stores applied
none_stored base f image = refl

more_stores : (f : ℕ → Store) (k : ℕ) → first_stores f (k + 1) ≡ first_stores f k ++ (f k ∷ [])
unfolding first_stores
more_stores f k = rw (add-one k)

module _ (base g : ℕ) (s image : List ℕ) where
  pub one_more_stored : (k a v : ℕ) (x y : List ℕ) → x ≡ applied base (first_stores (store_at g s) k) image → a ≡ place g s k → v ≡ byte s (k + 4)
      → y ≡ stored base (store a v) x → y ≡ applied base (first_stores (store_at g s) (k + 1)) image
  unfolding store_at applied
  one_more_stored k a v x y e q r t =
      rw (more_stores (store_at g s) k, applied_append base (first_stores (store_at g s) k) (store_at g s k ∷ []) image, ← r, ← q, ← e) t

  pub data_stored : {k i : ℕ} {y : List ℕ} → k ≡ kind s → k ≡ 0 → i ≡ size s → y ≡ applied base (first_stores (store_at g s) i) image → y ≡ applied base (line_stores g s) image
  unfolding line_stores
  data_stored e z i t = rw (← e, z, ← i) t

  pub others_store_none : {k : ℕ} → k ≡ kind s → (k ≡ 0 → ⊥) → image ≡ applied base (line_stores g s) image
  unfolding line_stores applied
  others_store_none {k} e z = rw (← e, ne_eqb k 0 z)

-- ---- all lines

-- a good text's next line is good
good_line : (base n g l : ℕ) (s : List ℕ) → 0 < length s → number_of (verdict_from base n g l 0 s) ≡ 0 → fault base n g s ≡ 0
good_line base n g l s h z = go (eqb (fault base n g s) 0) refl
  where
    go : (t : Bool) → eqb (fault base n g s) 0 ≡ t → fault base n g s ≡ 0
    go true e = eqb-true (fault base n g s) 0 e
    go false e = sym (ap number_of (faulty_line base n g l s h (eqb-false (fault base n g s) 0 e))) ∙ z

-- the loop's invariant: what is left of the text is good, and is still to be stored
pub record Storing (base : ℕ) (text image₀ image : List ℕ) (at segment : ℕ) : Type 0 where
  pub place : at ≤ length text
  pub small : segment ≤ 65535
  pub line : ℕ
  pub good : number_of (verdict_from base (length image₀) segment line 0 (drop at text)) ≡ 0
  pub same : length image ≡ length image₀
  pub all : applied base (stores_of text) image₀ ≡ applied base (stores_from segment 0 (drop at text)) image

pub begun : (base : ℕ) (text image : List ℕ) → number_of (verdict_of base (length image) text) ≡ 0 → Storing base text image image 0 0
unfolding verdict_of stores_of
begun base text image h = record { place = zero-le; small = zero-le; line = 1; good = h; same = refl; all = refl }

module _ {base : ℕ} {text image₀ image : List ℕ} {at segment : ℕ} (g : Storing base text image₀ image at segment) where
  abbrev left : List ℕ
  left = drop at text

  module _ (h : at < length text) {k p q : ℕ} (w : Passes segment (take (length text - at) (drop at text)) k p q) where
    some : 0 < length left
    some = rw (length-drop at text) (omega arith)

    v : Passes segment left k p q
    v = rw (rest at text) at w

    unfaulty : fault base (length image₀) segment left ≡ 0
    unfaulty = good_line base (length image₀) segment g.line left some g.good

    pub fits : at + p ≤ length text
    fits = omega (arith, v.spans, span_there left (good_formed base (length image₀) segment left unfaulty), length-drop at text, g.place)

    pub long : 2 ≤ p
    long = rw v.spans (span_some left)

    pub end_met : k ≡ 1 → image ≡ applied base (stores_of text) image₀
    unfolding applied
    end_met z = sym (g.all ∙ rw (end_stores segment left (sym v.kinds ∙ z)))

    pub line_stored : (k ≡ 1 → ⊥) → {y : List ℕ} → y ≡ applied base (line_stores segment (take (length text - at) (drop at text))) image → Storing base text image₀ y (at + p) q
    line_stored z {y} r =
        let n : kind left ≡ 1 → ⊥ = λ x. z (v.kinds ∙ x) in
        let t : y ≡ applied base (line_stores segment left) image = rw (rest at text) at r in
        record {
          place = fits;
          small = rw v.segments (segment_small segment left g.small);
          line = g.line + 1;
          good = rw (v.spans, v.segments, ← drop-drop (span left) at text, ← line_and_rest base (length image₀) segment g.line left some unfaulty n) g.good;
          same = ap length t ∙ (same_length base (line_stores segment left) image ∙ g.same);
          all = g.all ∙ rw (line_and_stores segment left some n, applied_append base (line_stores segment left) _ image, ← t, drop-drop (span left) at text, v.spans, v.segments);
        }

  pub text_ended : length text ≤ at → image ≡ applied base (stores_of text) image₀
  unfolding applied
  text_ended h = sym (g.all ∙ rw (drop_of_length-le text h, no_stores segment))

-- ---- the whole reading

module _ (text : List ℕ) (base : ℕ) (image : List ℕ) where
  pub checked : verdict_of base (length image) text ≡ verdict 0 0 → number_of (verdict_of base (length image) text) ≡ 0
  checked e = ap number_of e

  pub stored_all : (image' : List ℕ) → verdict_of base (length image) text ≡ verdict 0 0 → image' ≡ applied base (stores_of text) image → Reads text base image 0 0 image'
  stored_all image' e t = record { says = e; left = t }

  pub left_alone : (r : Refusal) (line : ℕ) → verdict_of base (length image) text ≡ verdict (refusal_number r) line → Reads text base image (refusal_number r) line image
  left_alone r line e = record { says = e; left = rw (ne_eqb (refusal_number r) 0 (refusal_some r)) }
