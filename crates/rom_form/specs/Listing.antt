-- The listing of a ROM: a line for each instruction.
use Rattle.std.specs.Prelude.{ℕ, zero, suc, ◌+◌, ◌-◌, ◌*◌, ◌/◌, ◌%◌, List, [], ◌∷◌, ◌++◌, Bool, ◌&&◌, length, get_or, take, drop, replicate, leb, ltb}
use Rattle.sheet.specs.declared.Instr.{Instr}
use Rattle.sheet.specs.Width.{pick}
use Rattle.sheet.specs.Reading.{Read, known, unknown, scan}
use Rattle.sheet.specs.FirstByte.{instruction}
use Rattle.sheet.specs.Step.{code_byte}
use Rattle.base_text.specs.Text.{text, hex}
use Rattle.rom_mnemonic.specs.Mnemonics.{instr_text}

-- ---- a line

unfoldable pub bytes_text : List ℕ → List ℕ
bytes_text [] = []
bytes_text (b ∷ l) = hex 2 b ++ bytes_text l

-- address, bytes, spaces up to where the words begin, words, the line's end
unfoldable pub line : (address : ℕ) (bytes words : List ℕ) → List ℕ
line a bytes words = hex 5 a ++ (text " " ++ (bytes_text bytes ++ (replicate (19 - 2 * length bytes) 32 ++ (words ++ (10 ∷ [])))))

unfoldable pub data_text : ℕ → List ℕ
data_text b = text "DB " ++ hex 2 b

-- ---- the image, which ends at FFFFFh

abbrev pub top : ℕ
top = 1048576

-- the bytes from an address on
unfoldable pub rest : List ℕ → ℕ → List ℕ
rest image a = drop (a + length image - top) image

-- what the engine reads at an address, with the image as its ROM and without RAM
unfoldable pub read_at : List ℕ → ℕ → Read Instr
read_at image a = scan instruction (code_byte [] image (a / 16) (a % 16)) 0

-- an instruction of n bytes that lies in the image whole; none is longer than 9
unfoldable pub whole : (n left : ℕ) → Bool
whole n left = leb n left && leb n 9

-- how many bytes a line names: those of an instruction, else one
unfoldable pub size_of : Read Instr → (left : ℕ) → ℕ
size_of (known i n) left = pick (whole n left) n 1
size_of (unknown r n) left = 1

unfoldable pub words_of : Read Instr → (left address first : ℕ) → List ℕ
words_of (known i n) left a b = pick (whole n left) (instr_text (a + n) i) (data_text b)
words_of (unknown r n) left a b = data_text b

unfoldable pub size_at : List ℕ → ℕ → ℕ
size_at image a = size_of (read_at image a) (top - a)

unfoldable pub line_at : List ℕ → ℕ → List ℕ
line_at image a = line a (take (size_at image a) (rest image a)) (words_of (read_at image a) (top - a) a (get_or (rest image a) 0 0))

-- at most k lines from an address on
unfoldable pub lines_from : ℕ → List ℕ → ℕ → List ℕ
lines_from zero image a = []
lines_from (suc k) image a = pick (ltb a top) (line_at image a ++ lines_from k image (a + size_at image a)) []

-- all lines of an image: there are no more than it has bytes
unfoldable pub listing : List ℕ → List ℕ
listing image = lines_from (length image) image (top - length image)
