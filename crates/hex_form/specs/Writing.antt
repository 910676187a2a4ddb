-- The text of Intel HEX that is written for an image: 16 data bytes a line, in upper case, each line ended by LF.
use Rattle.std.specs.Prelude.{ℕ, zero, suc, ◌+◌, ◌-◌, ◌*◌, ◌/◌, ◌%◌, ◌≤◌, ◌<◌, ◌≡◌, ◌⊎◌, List, [], ◌∷◌, ◌++◌, length, get_or, take, drop, leb}
use Rattle.sheet.specs.Width.{pick}
use Rattle.base_laws.specs.Writes.{Writes}
use Rattle.base_text.specs.Text.{hex}
use Rattle.hex_form.specs.Line.{sum}

-- the byte at a place
unfoldable pub at : List ℕ → ℕ → ℕ
at l i = get_or l i 0

unfoldable pub pairs : List ℕ → List ℕ
pairs [] = []
pairs (b ∷ l) = hex 2 b ++ pairs l

-- what makes the sum of all bytes 0
unfoldable pub checksum : List ℕ → ℕ
checksum l = (256 - sum (at l) (length l)) % 256

-- a line of these bytes, and of their checksum
unfoldable pub line_text : List ℕ → List ℕ
line_text l = 58 ∷ (pairs l ++ (hex 2 (checksum l) ++ (10 ∷ [])))

-- the bytes of a line before its data, and before its checksum
abbrev pub head_bytes : (kind offset size : ℕ) → List ℕ
head_bytes k o n = n ∷ (o / 256 ∷ (o % 256 ∷ (k ∷ [])))

unfoldable pub line_bytes : (kind offset : ℕ) → List ℕ → List ℕ
line_bytes k o x = head_bytes k o (length x) ++ x

unfoldable pub data_text : (offset : ℕ) → List ℕ → List ℕ
data_text o x = line_text (line_bytes 0 o x)

unfoldable pub segment_text : ℕ → List ℕ
segment_text g = line_text (line_bytes 2 0 (g / 256 ∷ (g % 256 ∷ [])))

unfoldable pub end_text : List ℕ
end_text = line_text (line_bytes 1 0 [])

-- the segment in which a line of 16 bytes at an address is written: a new one where the old one ends before
unfoldable pub segment_for : (segment address : ℕ) → ℕ
segment_for g a = pick (leb (a + 16) (16 * g + 65536)) g (a / 16)

-- its line, if it is a new one
unfoldable pub turn_text : (segment address : ℕ) → List ℕ
turn_text g a = pick (leb (a + 16) (16 * g + 65536)) [] (segment_text (a / 16))

-- a line of data, with the line of its segment
unfoldable pub chunk_text : (segment address : ℕ) → List ℕ → List ℕ
chunk_text g a x = turn_text g a ++ data_text (a - 16 * segment_for g a) x

-- at most k lines of data
unfoldable pub text_from : (k segment address : ℕ) → List ℕ → List ℕ
text_from zero g a rest = end_text
text_from (suc k) g a [] = end_text
text_from (suc k) g a (b ∷ rest) = chunk_text g a (take 16 (b ∷ rest)) ++ text_from k (segment_for g a) (a + 16) (drop 16 (b ∷ rest))

unfoldable pub hex_text : (base : ℕ) → List ℕ → List ℕ
hex_text base image = text_from (length image) 0 base image

-- where the bytes of a line end that begins at i: 16 bytes on, or at the image's end
pub record Ends (i n r : ℕ) : Type 0 where
  pub low : i ≤ r
  pub high : r ≤ n
  pub few : r ≤ i + 16
  pub full : r < n → r ≡ i + 16

-- what is said of writing: the text stands at the start of out, or out is as it was; 12 for an image that reaches past FFFFFh, then 6 for too little room
pub record WritesHex (image : List ℕ) (base : ℕ) (out : List ℕ) (number len : ℕ) (out' : List ℕ) : Type 0 where
  pub numbers : (number ≡ 0) ⊎ ((number ≡ 12) ⊎ (number ≡ 6))
  pub wrote : number ≡ 0 → (base + length image ≤ 1048576) × Writes (hex_text base image) out len out'
  pub past : number ≡ 12 → 1048576 < base + length image
  pub no_room : number ≡ 6 → (base + length image ≤ 1048576) × (length out < length (hex_text base image))
  pub untouched : (number ≡ 0 → ⊥) → (len ≡ 0) × (out' ≡ out)
