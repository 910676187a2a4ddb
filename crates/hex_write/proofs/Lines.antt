-- The lines of an image, put down and measured. Assumes nothing.
use Prim.Native.Nat.{ℕ, ◌+◌, ◌-◌, ◌*◌, ◌/◌, ◌≤◌, ◌<◌, zero-le}
use mathlib.Core.Path.{◌≡◌, refl, sym, ap, ◌∙◌}
use mathlib.Core.Bool.{Bool, true, false}
use mathlib.Core.Logic.{inl, inr}
use mathlib.Core.List.{List, [], ◌++◌, append_assoc}
use native.Mathlib.Omega.{arith}
use lib.ListN.{length, take, drop, length-append, length-take, length-drop, drop_of_length-le}
use lib.Seq.{drop-drop, take_all, length-take-le}
use lib.Dec.{ltb, leb, lit≤}
use borrow.Author.Tests.{ltb-true, ltb-false, eqb-false, le-leb, lt-leb}
use borrow.Rule.Slice.PartMut.{put_mid}
use Rattle.sheet.specs.Width.{pick}
use Rattle.base_laws.specs.Writes.{Writes}
use Rattle.base_laws.proofs.Writing.{none, same, room, more, front}
use Rattle.hex_form.specs.Writing.{line_text, line_bytes, end_text, segment_for, turn_text, chunk_text, text_from, hex_text, Ends, WritesHex}
use Rattle.hex_form.proofs.Texts.{record_long, segment_low, turn_long, chunk_long, text_ends, text_more}

segment_small : (g a : ℕ) → g ≤ 65535 → a ≤ 1048575 → segment_for g a ≤ 65535
unfolding segment_for
segment_small g a h k = go (leb (a + 16) (16 * g + 65536))
  where
    go : (t : Bool) → pick t g (a / 16) ≤ 65535
    go true = h
    go false = omega arith

pub ends_short : (i n : ℕ) → i < n → n - i < 16 → Ends i n n
ends_short i n h k = record { low = omega arith; high = omega arith; few = omega arith; full = λ z. omega arith }

pub ends_full : (i n : ℕ) → i < n → 16 ≤ n - i → Ends i n (i + 16)
ends_full i n h k = record { low = omega arith; high = omega arith; few = omega arith; full = λ z. refl }

-- a line's bytes are the next 16, or all that are left
part : (l : List ℕ) {i r : ℕ} → Ends i (length l) r → take (r - i) (drop i l) ≡ take 16 (drop i l)
part l {i} {r} e = go (ltb r (length l)) refl
  where
    go : (t : Bool) → ltb r (length l) ≡ t → take (r - i) (drop i l) ≡ take 16 (drop i l)
    go true z = let q : r - i ≡ 16 = omega (arith, e.full (ltb-true r (length l) z)) in rw q
    go false z =
        let q = ltb-false r (length l) z in
        let d = length-drop i l in
        take_all (r - i) (drop i l) (omega (arith, e.high)) ∙ sym (take_all 16 (drop i l) (omega (arith, e.few)))

pub part_few : (l : List ℕ) {i n r : ℕ} → Ends i n r → length (take (r - i) (drop i l)) ≤ 16
part_few l {i} {n} {r} e = rw (length-take (r - i) (drop i l)) (omega (arith, e.few))

-- what both loops know: which text is left
pub record Left (base : ℕ) (image : List ℕ) (g i : ℕ) : Type 0 where
  pub fuel : ℕ
  pub enough : length (drop i image) ≤ fuel
  pub low : 16 * g ≤ base + i
  pub small : g ≤ 65535
  pub near : i ≤ length image + 15

abbrev pub left : {base : ℕ} {image : List ℕ} {g i : ℕ} → Left base image g i → List ℕ
left {base} {image} {g} {i} x = text_from x.fuel g (base + i) (drop i image)

abbrev start : (base : ℕ) (image : List ℕ) → Left base image 0 0
start base image = record { fuel = length image; enough = omega arith; low = zero-le; small = zero-le; near = zero-le }

module _ {base : ℕ} {image : List ℕ} {g i : ℕ} (x : Left base image g i) where
  ended : length image ≤ i → left x ≡ end_text
  ended h = rw (drop_of_length-le image h) (text_ends x.fuel g (base + i))

  module _ (h : i < length image) (top : base + length image ≤ 1048576) where
    abbrev next : Left base image (segment_for g (base + i)) (i + 16)
    next =
        record {
          fuel = x.fuel - 1;
          enough = omega (arith, x.enough, length-drop i image, length-drop (i + 16) image);
          low = omega (arith, segment_low g (base + i) x.low);
          small = segment_small g (base + i) x.small (omega arith);
          near = omega arith;
        }

    one_more : left x ≡ chunk_text g (base + i) (take 16 (drop i image)) ++ left next
    one_more =
        let e : base + i + 16 ≡ base + (i + 16) = omega arith in
        text_more x.fuel g (base + i) (drop i image) (rw (length-drop i image) (omega arith)) x.enough
        ∙ rw (drop-drop 16 i image, e)

-- ---- the loop that writes: `done` stands in out

pub record Putting (base : ℕ) (image out₀ out : List ℕ) (at g i : ℕ) : Type 0 where
  pub rest : Left base image g i
  pub done : List ℕ
  pub wrote : Writes done out₀ at out
  pub all : hex_text base image ≡ done ++ left rest

pub begun : (base : ℕ) (image out : List ℕ) → Putting base image out out 0 0 0
unfolding hex_text
begun base image out =
    let e : base + 0 ≡ base = omega arith in
    record { rest = start base image; done = []; wrote = none out; all = rw e }

module _ {base : ℕ} {image out₀ out : List ℕ} {at g i : ℕ} (p : Putting base image out₀ out at g i) (fits : length (hex_text base image) ≤ length out₀) where
  pub at_within : at ≤ length out
  at_within = omega (arith, p.wrote.within, same p.wrote)

  module _ (top : base + length image ≤ 1048576) (h : i < length image) {r : ℕ} (e : Ends i (length image) r) where
    chunk : List ℕ
    chunk = chunk_text g (base + i) (take (r - i) (drop i image))

    all_more : hex_text base image ≡ (p.done ++ chunk) ++ left (next p.rest h top)
    unfolding chunk
    all_more =
        p.all ∙ (ap (λ (w : List ℕ). p.done ++ w) (one_more p.rest h top) ∙ rw (part image e) (sym (append_assoc p.done (chunk_text g (base + i) (take 16 (drop i image))) (left (next p.rest h top)))))

    chunk_fits : length (p.done ++ chunk) ≤ length out₀
    chunk_fits = front (p.done ++ chunk) (left (next p.rest h top)) (rw all_more at fits)

    pub chunk_room : length (chunk_text g (base + i) (take (r - i) (drop i image))) ≤ length (take (length out - at) (drop at out))
    unfolding chunk
    chunk_room = room p.wrote (chunk_text g (base + i) (take (r - i) (drop i image))) chunk_fits

    module _ {q : ℕ} {z : List ℕ} (w : Writes (chunk_text g (base + i) (take (r - i) (drop i image))) (take (length out - at) (drop at out)) q z) where
      pub on : at + q ≤ length out₀
      on = (more p.wrote (chunk_text g (base + i) (take (r - i) (drop i image))) z q w).within

      pub put : {g' : ℕ} → g' ≡ segment_for g (base + i) → Putting base image out₀ (put_mid at (length out - at) out z) (at + q) g' (i + 16)
      unfolding chunk
      put s =
          rw s
          (record {
            rest = next p.rest h top;
            done = p.done ++ chunk_text g (base + i) (take (r - i) (drop i image));
            wrote = more p.wrote (chunk_text g (base + i) (take (r - i) (drop i image))) z q w;
            all = all_more;
          })

  module _ (h : length image ≤ i) where
    whole : hex_text base image ≡ p.done ++ end_text
    whole = p.all ∙ ap (λ (w : List ℕ). p.done ++ w) (ended p.rest h)

    pub end_room : 12 ≤ length (take (length out - at) (drop at out))
    unfolding end_text
    end_room = rw (← record_long 1 0 []) (room p.wrote (line_text (line_bytes 1 0 [])) (rw whole at fits))

    module _ {q : ℕ} {z : List ℕ} (w : Writes (line_text (line_bytes 1 0 [])) (take (length out - at) (drop at out)) q z) where
      pub end_fits : at + q ≤ length out₀
      end_fits = (more p.wrote (line_text (line_bytes 1 0 [])) z q w).within

      pub end_same : length (put_mid at (length out - at) out z) ≡ length out₀
      end_same = same (more p.wrote (line_text (line_bytes 1 0 [])) z q w)

      pub end_put : Writes (hex_text base image) out₀ (at + q) (put_mid at (length out - at) out z)
      unfolding end_text
      end_put = rw whole (more p.wrote (line_text (line_bytes 1 0 [])) z q w)

-- ---- the loop that measures

turn_short : (g a : ℕ) → length (turn_text g a) ≤ 16
turn_short g a = rw (turn_long g a) (go (leb (a + 16) (16 * g + 65536)))
  where
    go : (t : Bool) → pick t 0 16 ≤ 16
    go true = lit≤ tt
    go false = lit≤ tt

pub chunk_bound : (g a m : ℕ) {q : ℕ} → q ≡ length (turn_text g a) + (2 * m + 12) → q ≤ 2 * m + 28
chunk_bound g a m e = omega (arith, turn_short g a)

pub record Measuring (base : ℕ) (image : List ℕ) (len g i : ℕ) : Type 0 where
  pub rest : Left base image g i
  pub few : len ≤ 12 + 4 * i
  pub all : length (hex_text base image) + 12 ≡ len + length (left rest)

pub measure_begun : (base : ℕ) (image : List ℕ) → Measuring base image 12 0 0
unfolding hex_text
measure_begun base image =
    let e : base + 0 ≡ base = omega arith in
    record { rest = start base image; few = lit≤ tt; all = rw e (omega arith) }

module _ {base : ℕ} {image : List ℕ} {len g i : ℕ} (p : Measuring base image len g i) where
  pub measured_more : base + length image ≤ 1048576 → i < length image → {r : ℕ} → Ends i (length image) r → {q g' : ℕ} → q ≡ length (turn_text g (base + i)) + (2 * (r - i) + 12)
      → g' ≡ segment_for g (base + i) → Measuring base image (len + q) g' (i + 16)
  measured_more top h {r} e {q} f s =
      let c = chunk_text g (base + i) (take 16 (drop i image)) in
      let m : length (take 16 (drop i image)) ≡ r - i = ap length (sym (part image e)) ∙ length-take-le (r - i) (drop i image) (omega (arith, length-drop i image, e.high, e.low)) in
      let n = chunk_long g (base + i) (take 16 (drop i image)) in
      let o = ap length (one_more p.rest h top) ∙ length-append c (left (next p.rest h top)) in
      let t : length (turn_text g (base + i)) ≤ 16 = turn_short g (base + i) in
      rw s (record { rest = next p.rest h top; few = omega (arith, p.few, e.few); all = omega (arith, p.all) })

  pub measured : length image ≤ i → len ≡ length (hex_text base image)
  unfolding end_text
  measured h = omega (arith, p.all, ap length (ended p.rest h), record_long 1 0 [])

module _ (g a m : ℕ) where
  pub short_chunk : a + 16 ≤ 16 * g + 65536 → 2 * m + 12 ≡ length (turn_text g a) + (2 * m + 12)
  short_chunk h = rw (turn_long g a, le-leb (a + 16) (16 * g + 65536) h) (omega arith)

  pub long_chunk : 16 * g + 65536 < a + 16 → 2 * m + 28 ≡ length (turn_text g a) + (2 * m + 12)
  long_chunk h = rw (turn_long g a, lt-leb (a + 16) (16 * g + 65536) h) (omega arith)

-- ---- how a writing ends

module _ (image : List ℕ) (base : ℕ) (out : List ℕ) where
  pub past : 1048576 < base + length image → WritesHex image base out 12 0 out
  past h =
      record {
        numbers = inr (inl refl);
        wrote = λ z. absurd (eqb-false 12 0 refl z);
        past = λ z. h;
        no_room = λ z. absurd (eqb-false 12 6 refl z);
        untouched = λ z. (refl, refl);
      }

  pub too_long : 1048576 < length image → WritesHex image base out 12 0 out
  too_long h = past (omega arith)

  pub too_high : length image ≤ 1048576 → 1048576 - length image < base → WritesHex image base out 12 0 out
  too_high k h = past (omega arith)

  module _ (k : length image ≤ 1048576) (h : base ≤ 1048576 - length image) where
    pub small : {n : ℕ} → n ≡ length (hex_text base image) → length out < n → WritesHex image base out 6 0 out
    small e r =
        record {
          numbers = inr (inr refl);
          wrote = λ z. absurd (eqb-false 6 0 refl z);
          past = λ z. absurd (eqb-false 6 12 refl z);
          no_room = λ z. (omega arith, rw e at r);
          untouched = λ z. (refl, refl);
        }

    pub done : {len : ℕ} {out' : List ℕ} → Writes (hex_text base image) out len out' → WritesHex image base out 0 len out'
    done w =
        record {
          numbers = inl refl;
          wrote = λ z. (omega arith, w);
          past = λ z. absurd (eqb-false 0 12 refl z);
          no_room = λ z. absurd (eqb-false 0 6 refl z);
          untouched = λ z. absurd (z refl);
        }
