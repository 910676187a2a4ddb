-- Reading what was written gives the image back. Assumes nothing.
use Prim.Native.Nat.{ℕ, zero, suc, ◌+◌, ◌-◌, ◌*◌, ◌/◌, ◌%◌, ◌≤◌, ◌<◌, zero-le}
use mathlib.Core.Path.{◌≡◌, refl, sym, ap, ◌∙◌}
use mathlib.Core.Bool.{Bool, true, false}
use mathlib.Core.List.{List, [], ◌∷◌, ◌++◌, append-nil, append_assoc}
use native.Mathlib.Nat.{not-suc-le-zero}
use native.Mathlib.Omega.{arith}
use lib.ListN.{length, get_or, take, drop, set, length-append, length-take, length-drop, take-append-drop}
use lib.Seq.{take-suc, take-length, drop-cons, set_at, length-take-le}
use lib.Dec.{leb, lit≤}
use borrow.Author.Tests.{le-leb, lt-ltb, eq-eqb, eqb-false, leb-true, leb-false}
use Rattle.base_laws.proofs.Bytes.{Bytes, bytes_drop}
use Rattle.hex_form.specs.Line.{all, kind, span, taken, formed}
use Rattle.hex_form.specs.Reading.{place, inside, lands_in, lands, fault, segment_after, verdict, verdict_from, verdict_of, store, store_at, first_stores, line_stores, stores_from, stores_of, stored, applied, Reads}
use Rattle.hex_form.specs.Writing.{line_text, line_bytes, data_text, segment_text, end_text, segment_for, turn_text, chunk_text, text_from, hex_text}
use Rattle.hex_form.proofs.Walk.{span_some, span_there, end_line, end_stores, line_and_rest, line_and_stores}
use Rattle.hex_form.proofs.Stores.{applied_append}
use Rattle.hex_form.proofs.Texts.{record_long, segment_low, segment_fits, segment_kept, segment_new, no_turn, turn}
use Rattle.hex_form.proofs.LineBack.{Back, line_back}

all_true : (f : ℕ → Bool) (k : ℕ) → ((i : ℕ) → i < k → f i ≡ true) → all f k ≡ true
unfolding all
all_true f zero h = refl
all_true f (suc k) h = rw (all_true f k (λ i l. h i (omega arith)), h k (omega arith))

pub inside_true : (base n a : ℕ) → base ≤ a → a < base + n → a < 1048576 → inside base n a ≡ true
unfolding inside
inside_true base n a p q r = rw (le-leb base a p, lt-ltb a (base + n) q, lt-ltb a 1048576 r)

stored_inside : (base a v : ℕ) (image : List ℕ) → inside base (length image) a ≡ true → stored base (store a v) image ≡ set image (a - base) v
unfolding stored
stored_inside base a v image h = rw h

-- ---- a line that is read again

module _ {k o : ℕ} {x s t : List ℕ} (b : Back k o x s t) (h : taken k o (length x) ≡ true) where
  formed_back : formed s ≡ true
  unfolding formed
  formed_back = rw (b.writes, b.kinds, b.offsets, b.sizes) h

  some : 0 < length s
  some = omega (arith, span_some s, span_there s formed_back)

  fault_none : (base n g : ℕ) → lands base n g s ≡ true → fault base n g s ≡ 0
  unfolding fault
  fault_none base n g l = rw (formed_back, b.sums, l)

-- what reading s under a segment comes to
pub record Trip (base n g : ℕ) (s old new : List ℕ) : Type 0 where
  pub says : (l : ℕ) → verdict_from base n g l 0 s ≡ verdict 0 0
  pub gives : applied base (stores_from g 0 s) old ≡ new

module _ (base n : ℕ) where
  -- ---- the end line

  end_trip : (g : ℕ) (old : List ℕ) → Trip base n g end_text old old
  unfolding end_text lands taken applied
  end_trip g old =
      let s = line_text (line_bytes 1 0 []) in
      let b : Back 1 0 [] s [] = rw (append-nil s) at (line_back 1 0 [] [] (lit≤ tt) (lit≤ tt) (lit≤ tt) (λ i. lit≤ tt)) in
      let w : length s ≡ span s = record_long 1 0 [] ∙ sym b.spans in
      let z : lands base n g s ≡ true = rw b.kinds in
      record {
        says = λ l. end_line base n g l s (some b refl) (fault_none b refl base n g z) b.kinds ∙ rw (eq-eqb (length s) (span s) w);
        gives = rw (end_stores g s b.kinds);
      }

  -- ---- a line of kind 02

  segment_trip : (g h : ℕ) (t old new : List ℕ) → h < 65536 → Trip base n h t old new → Trip base n g (segment_text h ++ t) old new
  unfolding segment_text lands taken segment_after line_stores
  segment_trip g h t old new small r =
      let x = h / 256 ∷ (h % 256 ∷ []) in
      let s = line_text (line_bytes 2 0 x) ++ t in
      let b = line_back 2 0 x t (lit≤ tt) (lit≤ tt) (lit≤ tt) (two (h / 256) (h % 256) (omega arith) (omega arith)) in
      let not_end : kind s ≡ 1 → ⊥ = λ z. eqb-false 2 1 refl (sym b.kinds ∙ z) in
      let z : lands base n g s ≡ true = rw b.kinds in
      let e : 256 * (h / 256) + h % 256 ≡ h = omega arith in
      let new_segment : segment_after g s ≡ h = rw (b.kinds, b.bytes 0 (lit≤ tt), b.bytes 1 (lit≤ tt)) e in
      let none : line_stores g s ≡ [] = rw b.kinds in
      record {
        says = λ l. line_and_rest base n g l s (some b refl) (fault_none b refl base n g z) not_end ∙ rw (new_segment, b.rests) (r.says (l + 1));
        gives = rw (line_and_stores g s (some b refl) not_end, none, new_segment, b.rests) r.gives;
      }
    where
      two : (c d : ℕ) → c < 256 → d < 256 → Bytes (c ∷ (d ∷ []))
      two c d p q zero = p
      two c d p q (suc zero) = q
      two c d p q (suc (suc i)) = lit≤ tt

  turn_trip : (g a : ℕ) (t old new : List ℕ) → a < 1048576 → Trip base n (segment_for g a) t old new → Trip base n g (turn_text g a ++ t) old new
  turn_trip g a t old new small r = go (leb (a + 16) (16 * g + 65536)) refl
    where
      go : (c : Bool) → leb (a + 16) (16 * g + 65536) ≡ c → Trip base n g (turn_text g a ++ t) old new
      go true e =
          let h = leb-true (a + 16) (16 * g + 65536) e in
          rw (no_turn g a h) (rw (segment_kept g a h) at r)
      go false e =
          let h = leb-false (a + 16) (16 * g + 65536) e in
          rw (turn g a h) (segment_trip g (a / 16) t old new (omega arith) (rw (segment_new g a h) at r))

  -- ---- a line of data, for the bytes of the image behind p

  module _ (g o : ℕ) (x t p q : List ℕ) (bytes : Bytes x) (few : length x ≤ 16) (fits : o + 16 ≤ 65536) (there : 16 * g + o ≡ base + length p)
      (room : length x ≤ length q) (long : n ≡ length p + length q) (top : base + n ≤ 1048576) where
    s : List ℕ
    s = line_text (line_bytes 0 o x) ++ t

    b : Back 0 o x s t
    unfolding s
    b = line_back 0 o x t (lit≤ tt) (omega arith) (omega arith) bytes

    place_back : (i : ℕ) → i < length x → place g s i ≡ base + length p + i
    unfolding place
    place_back i h = rw b.offsets (omega arith)

    inside_back : (i : ℕ) → i < length x → inside base n (base + length p + i) ≡ true
    inside_back i h = inside_true base n (base + length p + i) (omega arith) (omega arith) (omega arith)

    lands_back : lands base n g s ≡ true
    unfolding lands lands_in
    lands_back = rw (b.kinds, b.sizes) (all_true (lands_in base n g s) (length x) λ i h. rw (place_back i h) (inside_back i h))

    stores_back : (k : ℕ) → k ≤ length x → applied base (first_stores (store_at g s) k) (p ++ q) ≡ (p ++ take k x) ++ drop k q
    unfolding first_stores applied store_at
    stores_back zero h = rw (append-nil p)
    stores_back (suc k) h =
        let y = (p ++ take k x) ++ drop k q in
        let v = get_or x k 0 in
        let a = base + length p + k in
        let d = drop (suc k) q in
        let front : length (p ++ take k x) ≡ length p + k = length-append p (take k x) ∙ ap (λ (j : ℕ). length p + j) (length-take-le k x (omega arith)) in
        let y_long : length y ≡ n = length-append (p ++ take k x) (drop k q) ∙ omega (arith, front, length-drop k q) in
        let i : a - base ≡ length p + k = omega arith in
        applied_append base (first_stores (store_at g s) k) (store_at g s k ∷ []) (p ++ q)
        ∙ rw (stores_back k (omega arith), place_back k (omega arith), b.bytes k (omega arith))
        (stored_inside base a v y (rw y_long (inside_back k (omega arith)))
        ∙ (rw (i, drop-cons q k 0 (omega arith)) (set_at (p ++ take k x) (get_or q k 0) d v (length p + k) front)
        ∙ (sym (append_assoc (p ++ take k x) (v ∷ []) d) ∙ ap (λ (w : List ℕ). w ++ d) (append_assoc p (take k x) (v ∷ []) ∙ ap (λ (w : List ℕ). p ++ w) (sym (take-suc x k 0 (omega arith)))))))

    all_stored : applied base (line_stores g s) (p ++ q) ≡ (p ++ x) ++ drop (length x) q
    unfolding line_stores
    all_stored = rw (b.kinds, b.sizes) (stores_back (length x) (omega arith) ∙ rw (take-length x))

    data_trip : {new : List ℕ} → Trip base n g t ((p ++ x) ++ drop (length x) q) new → Trip base n g (data_text o x ++ t) (p ++ q) new
    unfolding data_text taken segment_after s
    data_trip r =
        let not_end : kind s ≡ 1 → ⊥ = λ z. eqb-false 0 1 refl (sym b.kinds ∙ z) in
        let same_segment : segment_after g s ≡ g = rw b.kinds in
        record {
          says = λ l. line_and_rest base n g l s (some b refl) (fault_none b refl base n g lands_back) not_end ∙ rw (same_segment, b.rests) (r.says (l + 1));
          gives =
              rw (line_and_stores g s (some b refl) not_end, applied_append base (line_stores g s) (stores_from (segment_after g s) 0 (drop (span s) s)) (p ++ q), all_stored, same_segment, b.rests)
              r.gives;
        }

  -- ---- all lines

  bytes_take : (k : ℕ) (l : List ℕ) → Bytes l → Bytes (take k l)
  bytes_take zero l h i = lit≤ tt
  bytes_take (suc k) [] h i = h i
  bytes_take (suc k) (c ∷ l) h zero = h 0
  bytes_take (suc k) (c ∷ l) h (suc i) = bytes_take k l (λ j. h (suc j)) i

  none_left : (q : List ℕ) → length q ≡ 0 → q ≡ []
  none_left [] e = refl
  none_left (c ∷ q) e = let z : 1 ≤ 0 = omega arith in absurd (not-suc-le-zero z)

  trip : (k g a : ℕ) (rest p q : List ℕ) → Bytes rest → length q ≡ length rest → n ≡ length p + length rest → base + n ≤ 1048576
      → (0 < length rest → a ≡ base + length p) → 16 * g ≤ a → length rest ≤ k → Trip base n g (text_from k g a rest) (p ++ q) (p ++ rest)
  unfolding text_from chunk_text
  trip zero g a [] p q bytes same long top there low few = rw (none_left q same) (end_trip g (p ++ []))
  trip zero g a (c ∷ r) p q bytes same long top there low few = absurd (not-suc-le-zero few)
  trip (suc k) g a [] p q bytes same long top there low few = rw (none_left q same) (end_trip g (p ++ []))
  trip (suc k) g a (c ∷ r) p q bytes same long top there low few =
      let rest = c ∷ r in
      let x = take 16 rest in
      let h = segment_for g a in
      let m = length-take 16 rest in
      let d = length-drop 16 rest in
      let here = there (omega arith) in
      let under = segment_low g a low in
      let over = segment_fits g a low in
      let px = length-append p x in
      let later : Trip base n h (text_from k h (a + 16) (drop 16 rest)) ((p ++ x) ++ drop (length x) q) ((p ++ x) ++ drop 16 rest) =
      trip k h (a + 16) (drop 16 rest) (p ++ x) (drop (length x) q) (bytes_drop 16 rest bytes) (length-drop (length x) q ∙ omega arith) (omega arith) top (λ z. omega arith) (omega arith) (omega arith) in
      let e : (p ++ x) ++ drop 16 rest ≡ p ++ rest = append_assoc p x (drop 16 rest) ∙ ap (λ (w : List ℕ). p ++ w) (take-append-drop 16 rest) in
      rw (append_assoc (turn_text g a) (data_text (a - 16 * h) x) (text_from k h (a + 16) (drop 16 rest)))
      (turn_trip g a (data_text (a - 16 * h) x ++ text_from k h (a + 16) (drop 16 rest)) (p ++ q) (p ++ rest) (omega arith)
      (data_trip h (a - 16 * h) x (text_from k h (a + 16) (drop 16 rest)) p q (bytes_take 16 rest bytes) (omega arith) (omega arith) (omega arith) (omega arith) (omega arith) top (rw e at later)))

-- ---- the round trip

pub round_trip : (base : ℕ) (image old : List ℕ) → Bytes image → base + length image ≤ 1048576 → length old ≡ length image → Trip base (length image) 0 (hex_text base image) old image
unfolding hex_text
round_trip base image old bytes top same = trip base (length image) (length image) 0 base image [] old bytes same (omega arith) top (λ z. omega arith) zero-le (omega arith)

-- whatever a reader answers that keeps its promise
pub read_back : (base : ℕ) (image old : List ℕ) → Bytes image → base + length image ≤ 1048576 → length old ≡ length image
    → {number line : ℕ} {new : List ℕ} → Reads (hex_text base image) base old number line new → (number ≡ 0) × (new ≡ image)
unfolding verdict_of stores_of
read_back base image old bytes top same {number} {line} {new} r =
    let t = round_trip base image old bytes top same in
    let v : verdict 0 0 ≡ verdict number line = sym (t.says 1) ∙ rw same at r.says in
    let z : number ≡ 0 = cc in
    (z, (rw z at r.left) ∙ t.gives)
