-- The round trip: the lines of a listing restore the image that was listed. Assumes that an instruction's words are text of one line.
use Prim.Native.Nat.{ℕ, zero, suc, ◌+◌, ◌-◌, ◌/◌, ◌%◌, ◌≤◌, ◌<◌}
use mathlib.Core.Path.{◌≡◌, refl, ap, sym, ◌∙◌}
use mathlib.Core.Bool.{Bool, true, false, and-eq-true_iff}
use mathlib.Core.List.{List, [], ◌∷◌, ◌++◌}
use native.Mathlib.Nat.{le_trans}
use native.Mathlib.Omega.{arith}
use lib.ListN.{length, get_or, take, drop, length-take, take-append-drop, drop_of_length-le}
use lib.Seq.{drop-drop}
use lib.Dec.{leb, ltb, lit≤}
use borrow.Author.Tests.{ltb-true, ltb-false, leb-true}
use Rattle.sheet.specs.declared.Instr.{Instr}
use Rattle.sheet.specs.Width.{pick}
use Rattle.sheet.specs.Reading.{Reading, need, ◌>>=◌, Read, known, unknown, scan, length_of}
use Rattle.sheet.specs.FirstByte.{prefixed, instruction}
use Rattle.sheet.specs.Step.{code_byte}
use Rattle.sheet.proofs.ReadingLaws.{scan_more}
use Rattle.base_laws.proofs.Bytes.{Bytes, bytes_drop}
use Rattle.base_text.specs.Text.{hex, hex_digit}
use Rattle.rom_mnemonic.specs.Mnemonics.{instr_text}
use Rattle.rom_mnemonic.specs.Printed.{Printed, no_more, and_then_lem}
use Rattle.rom_form.specs.Listing.{data_text, top, rest, read_at, whole, size_of, words_of, size_at, line_at, lines_from, listing}
use Rattle.rom_form.specs.Restored.{restored_from, restored}
use Rattle.rom_form.proofs.LineRestored.{digit_printed, line_restored}

-- ---- how many bytes a line names

pub record Sized (n left : ℕ) : Type 0 where
  pub some : 1 ≤ n
  pub few : n ≤ 9
  pub fits : n ≤ left

sized : (r : Read Instr) (left : ℕ) → 1 ≤ length_of r → 1 ≤ left → Sized (size_of r left) left
unfolding size_of whole
sized (known i n) left p q = go (whole n left) refl
  where
    go : (t : Bool) → whole n left ≡ t → Sized (pick t n 1) left
    go true e =
        let (x, y) = (and-eq-true_iff (leb n left) (leb n 9)).0 e in
        record { some = p; few = leb-true n 9 y; fits = leb-true n left x }
    go false e = record { some = lit≤ tt; few = lit≤ tt; fits = q }
sized (unknown r n) left p q = record { some = lit≤ tt; few = lit≤ tt; fits = q }

-- a reading that asks for a byte, as an instruction does: so it has read one
data Asks : Reading Instr → Type 0 where
  asks : {k : ℕ → Reading Instr} → Asks (need k)

instruction_asks : Asks instruction
unfolding instruction prefixed ◌>>=◌
instruction_asks = asks

first_read : {p : Reading Instr} (src : ℕ → ℕ) → Asks p → 1 ≤ length_of (scan p src 0)
unfolding scan
first_read src (asks {k = k}) = scan_more (k (src 0)) src 1

pub size_at_lem : (image : List ℕ) (a : ℕ) → a < top → Sized (size_at image a) (top - a)
unfolding size_at read_at
size_at_lem image a h = sized (read_at image a) (top - a) (first_read (code_byte [] image (a / 16) (a % 16)) instruction_asks) (omega arith)

-- ---- the words of a line

data_printed : (b : ℕ) → Printed (data_text b)
unfolding data_text hex
data_printed b = and_then_lem (lit≤ tt) (and_then_lem (lit≤ tt) (and_then_lem (lit≤ tt) (and_then_lem (printed (b / 16 % 16)) (and_then_lem (printed (b % 16)) no_more))))
  where
    printed : (n : ℕ) → 32 ≤ hex_digit n
    printed n = le_trans (lit≤ tt) (digit_printed n)

-- ---- the bytes from an address on

bytes_take : (n : ℕ) (s : List ℕ) → Bytes s → Bytes (take n s)
bytes_take zero s h i = lit≤ tt
bytes_take (suc n) [] h i = h i
bytes_take (suc n) (b ∷ s) h zero = h 0
bytes_take (suc n) (b ∷ s) h (suc i) = bytes_take n s (λ j. h (suc j)) i

module _ (image : List ℕ) (a : ℕ) where
  rest_none : top ≤ a → rest image a ≡ []
  unfolding rest
  rest_none h = drop_of_length-le image {i = a + length image - top} (omega arith)

  rest_bytes : Bytes image → Bytes (rest image a)
  unfolding rest
  rest_bytes h = bytes_drop (a + length image - top) image h

  rest_later : (n : ℕ) → top ≤ a + length image → rest image (a + n) ≡ drop n (rest image a)
  unfolding rest
  rest_later n p = rw (drop-drop n (a + length image - top) image, the_place)
    where
      the_place : a + n + length image - top ≡ a + length image - top + n
      the_place = omega arith

-- ---- all lines

module _ (words_printed : (next : ℕ) (i : Instr) → Printed (instr_text next i)) where
  line_printed : (r : Read Instr) (left a b : ℕ) → Printed (words_of r left a b)
  unfolding words_of
  line_printed (known i n) left a b = go (whole n left)
    where
      go : (t : Bool) → Printed (pick t (instr_text (a + n) i) (data_text b))
      go true = words_printed (a + n) i
      go false = data_printed b
  line_printed (unknown r n) left a b = data_printed b

  module _ (image : List ℕ) (bytes : Bytes image) where
    line_at_restored : (a : ℕ) (t : List ℕ) → a < top → restored_from 0 0 (line_at image a ++ t) ≡ take (size_at image a) (rest image a) ++ restored_from 0 0 t
    unfolding line_at
    line_at_restored a t h =
        let few = (size_at_lem image a h).few in
        line_restored a (take (size_at image a) (rest image a)) _ t (bytes_take (size_at image a) (rest image a) (rest_bytes image a bytes))
        (rw length-take (omega arith))
        (line_printed (read_at image a) (top - a) a (get_or (rest image a) 0 0))

    -- from an address in the image on, with lines enough
    lines_restored : (k a : ℕ) → top ≤ a + length image → a ≤ top → top ≤ a + k → restored_from 0 0 (lines_from k image a) ≡ rest image a
    unfolding lines_from restored_from
    lines_restored zero a p q r = sym (rest_none image a (omega arith))
    lines_restored (suc k) a p q r =
        go (ltb a top) refl λ h.
        let s = size_at_lem image a h in
        lines_restored k (a + size_at image a) (omega arith) (omega (arith, s.fits)) (omega (arith, s.some))
      where
        go : (t : Bool) → ltb a top ≡ t → (a < top → restored_from 0 0 (lines_from k image (a + size_at image a)) ≡ rest image (a + size_at image a))
            → restored_from 0 0 (pick t (line_at image a ++ lines_from k image (a + size_at image a)) []) ≡ rest image a
        go true e later =
            let h = ltb-true a top e in
            line_at_restored a (lines_from k image (a + size_at image a)) h
            ∙ rw (later h, rest_later image a (size_at image a) p) (take-append-drop (size_at image a) (rest image a))
        go false e later = sym (rest_none image a (ltb-false a top e))

-- ---- the round trip

pub restored_listing : ((next : ℕ) (i : Instr) → Printed (instr_text next i)) → (image : List ℕ) → Bytes image → length image ≤ 1048576 → restored (listing image) ≡ image
unfolding restored listing rest
restored_listing p image h l = lines_restored p image h (length image) (top - length image) (omega arith) (omega arith) (omega arith) ∙ rw the_start
  where
    the_start : top - length image + length image - top ≡ 0
    the_start = omega arith

-- two images with one listing are one
pub listing_once : ((next : ℕ) (i : Instr) → Printed (instr_text next i)) → (image image' : List ℕ) → Bytes image → Bytes image' → length image ≤ 1048576 → length image' ≤ 1048576
    → listing image ≡ listing image' → image ≡ image'
listing_once p image image' h h' l l' e = sym (restored_listing p image h l) ∙ (ap restored e ∙ restored_listing p image' h' l')
