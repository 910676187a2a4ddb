-- The pieces of a line.
use Prim.Native.Nat.{ℕ, ◌+◌, ◌-◌, ◌*◌, ◌/◌, ◌%◌, ◌≤◌, ◌<◌}
use mathlib.Core.Path.{◌≡◌, refl, sym, ap, ◌∙◌}
use mathlib.Core.Bool.{Bool, true, false, and-eq-true_iff}
use mathlib.Core.List.{List, [], ◌∷◌, ◌++◌, append_assoc, append-nil}
use native.Mathlib.Omega.{arith}
use native.Mathlib.Nat.{add-zero, min-le_left}
use native.Mathlib.Numerals.{add-one}
use lib.ListN.{length, get_or, take, drop, replicate, length-take}
use lib.Seq.{take-suc, get_or-drop}
use lib.Dec.{leb}
use borrow.Author.Tests.{leb-true}
use Rattle.sheet.specs.declared.Instr.{Instr}
use Rattle.base_text.specs.Text.{text, hex}
use Rattle.base_line.specs.Adds.{Adds, Puts}
use Rattle.base_line.proofs.Laws.{nothing, then}
use Rattle.rom_mnemonic.specs.Mnemonics.{instr_text}
use Rattle.sheet.specs.Reading.{Read, known, unknown}
use Rattle.sheet.specs.FirstByte.{instruction}
use Rattle.sheet.specs.Step.{code_byte}
use Rattle.std.specs.Prelude.{Ok, Err}
use Rattle.code_answer.specs.declared.Decoded.{Decoded}
use Rattle.sheet.specs.declared.Refusal.{Refusal}
use Rattle.sheet.specs.Refusals.{refusal_number}
use Rattle.code_answer.specs.Answer.{Answer, known_as, Decodes}
use Rattle.code_answer.proofs.DecodesLaws.{known_reads, unknown_refuses}
use Rattle.rom_form.proofs.Lines.{line_short}
use Rattle.rom_form.specs.Listing.{bytes_text, line, data_text, top, rest, read_at, whole, size_of, words_of, size_at, line_at}
use Rattle.rom_list.specs.Makes.{head_text, instr_line, data_line, MakesByte, Makes, MakesIn}

bytes_more : (x : List ℕ) (b : ℕ) → bytes_text (x ++ (b ∷ [])) ≡ bytes_text x ++ hex 2 b
unfolding bytes_text
bytes_more [] b = append-nil (hex 2 b)
bytes_more (c ∷ x) b = ap (λ (l : List ℕ). hex 2 c ++ l) (bytes_more x b) ∙ sym (append_assoc (hex 2 c) (bytes_text x) (hex 2 b))

pub no_digits : (x line : List ℕ) → Adds (bytes_text (take 0 x)) line line
unfolding bytes_text
no_digits x line = nothing line

pub more_digits : (x : List ℕ) (i : ℕ) {line line' line'' : List ℕ} → i < length x → Adds (bytes_text (take i x)) line line' → Adds (hex 2 (get_or x i 0)) line' line''
    → Adds (bytes_text (take (i + 1) x)) line line''
more_digits x i m a b = rw (add-one i, take-suc x i 0 m, bytes_more (take i x) (get_or x i 0)) (then a b)

module _ {line₁ line₂ line₃ line₄ line₅ : List ℕ} where
  pub head_added : (a : ℕ) (bytes : List ℕ) → Adds (hex 5 a) line₁ line₂ → Adds (text " ") line₂ line₃ → Adds (bytes_text bytes) line₃ line₄ → Adds (replicate (19 - 2 * length bytes) 32) line₄ line₅
      → Adds (head_text a bytes) line₁ line₅
  unfolding head_text
  head_added a bytes x y z v = then x (then y (then z v))

-- a line is its head, its words and its end
line_is : (a : ℕ) (bytes words : List ℕ) → line a bytes words ≡ head_text a bytes ++ (words ++ (10 ∷ []))
unfolding line head_text
line_is a bytes words = simp append_assoc refl

module _ {line₁ line₂ line₃ line₄ : List ℕ} where
  pub instr_line_added : (a : ℕ) (bytes : List ℕ) (next : ℕ) (i : Instr) → Adds (head_text a bytes) line₁ line₂ → Adds (instr_text next i) line₂ line₃ → Adds (10 ∷ []) line₃ line₄
      → Adds (instr_line a bytes next i) line₁ line₄
  unfolding instr_line
  instr_line_added a bytes next i x y z = rw (line_is a bytes (instr_text next i)) (then x (then y z))

  pub data_line_added : (a : ℕ) (bytes : List ℕ) (b : ℕ) {line₅ : List ℕ} → Adds (head_text a bytes) line₁ line₂ → Adds (text "DB ") line₂ line₃ → Adds (hex 2 b) line₃ line₄
      → Adds (10 ∷ []) line₄ line₅ → Adds (data_line a bytes b) line₁ line₅
  unfolding data_line data_text
  data_line_added a bytes b x y z v = rw (line_is a bytes (text "DB " ++ hex 2 b), append_assoc (text "DB ") (hex 2 b) (10 ∷ [])) (then x (then y (then z v)))

pub byte_made : (image : List ℕ) (a k : ℕ) {start line : List ℕ} → start ≡ [] → Adds (data_line a (take (k + 1 - k) (drop k image)) (get_or image k 0)) start line → MakesByte image a k line 1
byte_made image a k o h = let e : k + 1 - k ≡ 1 = omega arith in record { adds = rw (e, o) at h; counts = refl }

-- ---- the line at an address

module _ (image : List ℕ) (a k : ℕ) (e : k ≡ a + length image - top) (m : top ≤ a + length image) (b : a < top) where
  left_is : length image - k ≡ top - a
  left_is = omega arith

  rest_is : rest image a ≡ drop k image
  unfolding rest
  rest_is = rw (← e) refl

  first_is : get_or (rest image a) 0 0 ≡ get_or image k 0
  first_is = rw rest_is (get_or-drop k image 0 0) ∙ ap (λ i. get_or image i 0) (add-zero k)

  -- a line has room for its text
  made : {line : List ℕ} {size : ℕ} → Adds (line_at image a) [] line → size ≡ size_at image a → Makes image a line size
  made h c = record { here = h.adds (line_short image a b); counts = c }

  pub instr_made : (i : Instr) (n : ℕ) {start line : List ℕ} → start ≡ [] → (d : Answer Instr) → Decodes instruction (code_byte [] image (a / 16) (a % 16)) 0 d → d ≡ known_as i n → (t : Bool) → t ≡ whole n (length image - k) → t ≡ true
      → Adds (instr_line a (take (k + n - k) (drop k image)) (a + n) i) start line → Makes image a line n
  unfolding instr_line line_at size_at read_at size_of words_of
  instr_made i n o d x y t u w h =
      let q = (known_reads i n (rw y at x)).is in
      let v : whole n (top - a) ≡ true = rw left_is at (sym u ∙ w) in
      let z : k + n - k ≡ n = omega arith in
      made (rw (q, v, rest_is) (rw (z, o) at h)) (rw (q, v) refl)

  -- no instruction, or none that lies here whole
  data_made : (s : Read Instr) {line : List ℕ} {n : ℕ} → read_at image a ≡ s → size_of s (top - a) ≡ 1 → words_of s (top - a) a (get_or (rest image a) 0 0) ≡ data_text (get_or (rest image a) 0 0)
      → MakesByte image a k line n → Makes image a line n
  unfolding data_line line_at size_at
  data_made s q p w h = made (rw (q, p, w, first_is, rest_is) h.adds) (h.counts ∙ rw (q, p) refl)

  pub cut_made : (r : Decoded Instr) {line : List ℕ} {size : ℕ} → (d : Answer Instr) → Decodes instruction (code_byte [] image (a / 16) (a % 16)) 0 d → d ≡ Ok r → (t : Bool) → t ≡ whole r.size (length image - k) → t ≡ false
      → MakesByte image a k line size → Makes image a line size
  unfolding read_at size_of words_of
  cut_made r d x y t u w h =
      let v : whole r.size (top - a) ≡ false = rw left_is at (sym u ∙ w) in
      data_made (known r.instr r.size) (known_reads r.instr r.size (rw y at x)).is (rw v refl) (rw v refl) h

  pub unknown_made : (c : Refusal) {line : List ℕ} {size : ℕ} → (d : Answer Instr) → Decodes instruction (code_byte [] image (a / 16) (a % 16)) 0 d → d ≡ Err c → MakesByte image a k line size → Makes image a line size
  unfolding read_at size_of words_of
  unknown_made c d x y h = let u = unknown_refuses c (rw y at x) in data_made (unknown (refusal_number c) u.at) u.is refl refl h

-- what lies whole is at most nine bytes, and does not pass the image's end
pub whole_fits : (n left : ℕ) → whole n left ≡ true → (n ≤ left) × (n ≤ 9)
unfolding whole
whole_fits n left e = let (x, y) = (and-eq-true_iff (leb n left) (leb n 9)).0 e in (leb-true n left x, leb-true n 9 y)

pub part_short : (image : List ℕ) (k n : ℕ) → n ≤ 9 → length (take (k + n - k) (drop k image)) ≤ 9
part_short image k n h = let e : k + n - k ≡ n = omega arith in rw (e, length-take n (drop k image)) (omega (arith, min-le_left n (length (drop k image))))

-- the line, put at the start of 80 bytes
pub put_made : (image : List ℕ) (a : ℕ) {line s s' : List ℕ} {size r : ℕ} → Makes image a line size → Puts line s 0 r s' → MakesIn image a s r size s'
put_made image a m h = record { puts = rw (← m.here) h; counts = m.counts }
