-- The text that is written, and how long it is. Assumes nothing.
use Prim.Native.Nat.{ℕ, zero, suc, ◌+◌, ◌-◌, ◌*◌, ◌/◌, ◌%◌, ◌≤◌, ◌<◌}
use mathlib.Core.Path.{◌≡◌, refl, ap, ◌∙◌}
use mathlib.Core.Bool.{Bool, true, false}
use mathlib.Core.List.{List, [], ◌∷◌, ◌++◌}
use native.Mathlib.Nat.{not-suc-le-zero}
use native.Mathlib.Numerals.{sub-one}
use native.Mathlib.Omega.{arith}
use lib.ListN.{length, take, drop, length-append}
use lib.Dec.{leb}
use borrow.Author.Tests.{le-leb, lt-leb, leb-true}
use Rattle.sheet.specs.Width.{pick}
use Rattle.base_text.specs.Text.{hex}
use Rattle.base_text.proofs.Texts.{hex_length}
use Rattle.hex_form.specs.Writing.{pairs, checksum, line_text, line_bytes, data_text, segment_text, end_text, segment_for, turn_text, chunk_text, text_from}

pub pairs_long : (l : List ℕ) → length (pairs l) ≡ 2 * length l
unfolding pairs
pairs_long [] = refl
pairs_long (b ∷ l) = length-append (hex 2 b) (pairs l) ∙ omega (arith, hex_length 2 b, pairs_long l)

pub line_long : (l : List ℕ) → length (line_text l) ≡ 2 * length l + 4
unfolding line_text
line_long l =
    let a = length-append (pairs l) (hex 2 (checksum l) ++ (10 ∷ [])) in
    let b = length-append (hex 2 (checksum l)) (10 ∷ []) in
    omega (arith, pairs_long l, hex_length 2 (checksum l))

pub record_long : (k o : ℕ) (x : List ℕ) → length (line_text (line_bytes k o x)) ≡ 2 * length x + 12
unfolding line_bytes
record_long k o x = line_long (line_bytes k o x) ∙ omega arith

-- ---- the segment of a line

module _ (g a : ℕ) (low : 16 * g ≤ a) where
  pub segment_low : 16 * segment_for g a ≤ a
  unfolding segment_for
  segment_low = go (leb (a + 16) (16 * g + 65536))
    where
      go : (t : Bool) → 16 * pick t g (a / 16) ≤ a
      go true = low
      go false = omega arith

  pub segment_fits : a + 16 ≤ 16 * segment_for g a + 65536
  unfolding segment_for
  segment_fits = go (leb (a + 16) (16 * g + 65536)) refl
    where
      go : (t : Bool) → leb (a + 16) (16 * g + 65536) ≡ t → a + 16 ≤ 16 * pick t g (a / 16) + 65536
      go true e = leb-true (a + 16) (16 * g + 65536) e
      go false e = omega arith

module _ (g a : ℕ) where
  pub segment_kept : a + 16 ≤ 16 * g + 65536 → segment_for g a ≡ g
  unfolding segment_for
  segment_kept h = rw (le-leb (a + 16) (16 * g + 65536) h)

  pub no_turn : a + 16 ≤ 16 * g + 65536 → turn_text g a ≡ []
  unfolding turn_text
  no_turn h = rw (le-leb (a + 16) (16 * g + 65536) h)

  pub segment_new : 16 * g + 65536 < a + 16 → segment_for g a ≡ a / 16
  unfolding segment_for
  segment_new h = rw (lt-leb (a + 16) (16 * g + 65536) h)

  pub turn : 16 * g + 65536 < a + 16 → turn_text g a ≡ segment_text (a / 16)
  unfolding turn_text
  turn h = rw (lt-leb (a + 16) (16 * g + 65536) h)

-- ---- the lines from an address on

pub text_ends : (k g a : ℕ) → text_from k g a [] ≡ end_text
unfolding text_from
text_ends zero g a = refl
text_ends (suc k) g a = refl

pub text_more : (k g a : ℕ) (l : List ℕ) → 0 < length l → length l ≤ k
    → text_from k g a l ≡ chunk_text g a (take 16 l) ++ text_from (k - 1) (segment_for g a) (a + 16) (drop 16 l)
unfolding text_from
text_more zero g a [] h e = absurd (not-suc-le-zero h)
text_more zero g a (b ∷ l) h e = absurd (not-suc-le-zero e)
text_more (suc k) g a [] h e = absurd (not-suc-le-zero h)
text_more (suc k) g a (b ∷ l) h e = rw (sub-one (suc k))

-- ---- how long they are

pub turn_long : (g a : ℕ) → length (turn_text g a) ≡ pick (leb (a + 16) (16 * g + 65536)) 0 16
unfolding turn_text segment_text
turn_long g a = go (leb (a + 16) (16 * g + 65536))
  where
    go : (t : Bool) → length (pick t [] (segment_text (a / 16))) ≡ pick t 0 16
    go true = refl
    go false = record_long 2 0 (a / 16 / 256 ∷ (a / 16 % 256 ∷ []))

pub chunk_long : (g a : ℕ) (x : List ℕ) → length (chunk_text g a x) ≡ length (turn_text g a) + (2 * length x + 12)
unfolding chunk_text data_text
chunk_long g a x = length-append (turn_text g a) (data_text (a - 16 * segment_for g a) x) ∙ ap (λ (j : ℕ). length (turn_text g a) + j) (record_long 0 (a - 16 * segment_for g a) x)
