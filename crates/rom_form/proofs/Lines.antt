-- The lines of an image, one after the other. Assumes nothing.
use Prim.Native.Nat.{ℕ, zero, suc, ◌+◌, ◌-◌, ◌*◌, ◌≤◌, ◌<◌}
use mathlib.Core.Path.{◌≡◌, refl, sym, ap, ◌∙◌}
use mathlib.Core.Bool.{Bool, true, false}
use mathlib.Core.List.{List, [], ◌∷◌, ◌++◌}
use native.Mathlib.Omega.{arith}
use lib.ListN.{length, get_or, take, length-append, length-take, length-replicate}
use lib.Dec.{ltb, lit≤}
use borrow.Author.Tests.{ltb-true, lt-ltb, le-ltb}
use Rattle.sheet.specs.declared.Instr.{Instr}
use Rattle.sheet.specs.Width.{pick}
use Rattle.sheet.specs.Reading.{Read, known, unknown}
use Rattle.base_text.specs.Text.{hex}
use Rattle.base_text.proofs.Texts.{hex_length}
use Rattle.rom_mnemonic.specs.Mnemonics.{instr_text}
use Rattle.rom_mnemonic.proofs.Words.{words_short}
use Rattle.rom_form.specs.Listing.{bytes_text, line, data_text, top, rest, read_at, whole, words_of, size_at, line_at, lines_from, listing}
use Rattle.rom_form.proofs.RoundTrip.{size_at_lem}

-- ---- a line is at most 80 bytes long

bytes_long : (l : List ℕ) → length (bytes_text l) ≡ 2 * length l
unfolding bytes_text
bytes_long [] = refl
bytes_long (b ∷ l) = length-append (hex 2 b) (bytes_text l) ∙ omega (arith, hex_length 2 b, bytes_long l)

line_long : (a : ℕ) (bytes words : List ℕ) → length bytes ≤ 9 → length words ≤ 54 → length (line a bytes words) ≤ 80
unfolding line
line_long a bytes words h k =
    rw (length-append (hex 5 a), hex_length 5 a, length-append (bytes_text bytes), bytes_long bytes, length-append, length-replicate, length-append)
    (omega arith)

words_long : (r : Read Instr) (left a b : ℕ) → length (words_of r left a b) ≤ 54
unfolding words_of data_text hex
words_long (known i n) left a b = go (whole n left)
  where
    go : (t : Bool) → length (pick t (instr_text (a + n) i) (data_text b)) ≤ 54
    go true = words_short (a + n) i
    go false = lit≤ tt
words_long (unknown r n) left a b = lit≤ tt

module _ (image : List ℕ) (a : ℕ) (h : a < top) where
  pub line_short : length (line_at image a) ≤ 80
  unfolding line_at
  line_short =
      let few = (size_at_lem image a h).few in
      line_long a (take (size_at image a) (rest image a)) _ (rw length-take (omega arith)) (words_long (read_at image a) (top - a) a (get_or (rest image a) 0 0))

-- ---- the lines from an address on

pub no_lines : (k : ℕ) (image : List ℕ) (a : ℕ) → top ≤ a → lines_from k image a ≡ []
unfolding lines_from
no_lines zero image a h = refl
no_lines (suc k) image a h = rw (le-ltb a top h)

one_line : (k : ℕ) (image : List ℕ) (a : ℕ) → a < top → lines_from (suc k) image a ≡ line_at image a ++ lines_from k image (a + size_at image a)
unfolding lines_from
one_line k image a h = rw (lt-ltb a top h)

-- lines enough are all lines
enough : (k j : ℕ) (image : List ℕ) (a : ℕ) → top ≤ a + k → top ≤ a + j → lines_from k image a ≡ lines_from j image a
unfolding lines_from
enough zero j image a p q = sym (no_lines j image a (omega arith))
enough (suc k) zero image a p q = no_lines (suc k) image a (omega arith)
enough (suc k) (suc j) image a p q =
    go (ltb a top) refl λ h.
    let some = (size_at_lem image a h).some in
    enough k j image (a + size_at image a) (omega arith) (omega arith)
  where
    go : (t : Bool) → ltb a top ≡ t → (a < top → lines_from k image (a + size_at image a) ≡ lines_from j image (a + size_at image a))
        → pick t (line_at image a ++ lines_from k image (a + size_at image a)) [] ≡ pick t (line_at image a ++ lines_from j image (a + size_at image a)) []
    go true e later = ap (λ (l : List ℕ). line_at image a ++ l) (later (ltb-true a top e))
    go false e later = refl

pub line_and_rest : (image : List ℕ) (a : ℕ) → a < top
    → lines_from (top - a) image a ≡ line_at image a ++ lines_from (top - (a + size_at image a)) image (a + size_at image a)
line_and_rest image a h =
    let some = (size_at_lem image a h).some in
    enough (top - a) (suc (top - a)) image a (omega arith) (omega arith)
    ∙ (one_line (top - a) image a h ∙ ap (λ (l : List ℕ). line_at image a ++ l) (enough (top - a) (top - (a + size_at image a)) image (a + size_at image a) (omega arith) (omega arith)))

pub all_lines : (image : List ℕ) → length image ≤ top → listing image ≡ lines_from (top - (top - length image)) image (top - length image)
unfolding listing
all_lines image h = rw n
  where
    n : top - (top - length image) ≡ length image
    n = omega arith
