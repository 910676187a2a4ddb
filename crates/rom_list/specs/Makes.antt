-- What is said of the making of a line.
use Rattle.std.specs.Prelude.{ℕ, ◌-◌, ◌*◌, ◌≡◌, List, [], ◌++◌, length, get_or, take, drop, replicate}
use Rattle.base_text.specs.Text.{text, hex}
use Rattle.base_line.specs.Adds.{Adds, Puts}
use Rattle.sheet.specs.declared.Instr.{Instr}
use Rattle.rom_mnemonic.specs.Mnemonics.{instr_text}
use Rattle.rom_form.specs.Listing.{bytes_text, line, data_text, line_at, size_at}

-- a line up to where its words begin
unfoldable pub head_text : ℕ → List ℕ → List ℕ
head_text a bytes = hex 5 a ++ (text " " ++ (bytes_text bytes ++ replicate (19 - 2 * length bytes) 32))

-- the lines of an instruction, with the next one's address, and of a byte alone
unfoldable pub instr_line : (a : ℕ) (bytes : List ℕ) (next : ℕ) → Instr → List ℕ
instr_line a bytes next i = line a bytes (instr_text next i)

unfoldable pub data_line : (a : ℕ) (bytes : List ℕ) (b : ℕ) → List ℕ
data_line a bytes b = line a bytes (data_text b)

-- the line at an address was made: its text, and how many bytes of the image it names
pub record Makes (image : List ℕ) (a : ℕ) (line : List ℕ) (size : ℕ) : Type 0 where
  pub here : line ≡ line_at image a
  pub counts : size ≡ size_at image a

-- the line at an address was put at the start of 80 bytes: r of text, for so many of the image
pub record MakesIn (image : List ℕ) (a : ℕ) (line : List ℕ) (r size : ℕ) (line' : List ℕ) : Type 0 where
  pub puts : Puts (line_at image a) line 0 r line'
  pub counts : size ≡ size_at image a

-- the byte at place k alone
pub record MakesByte (image : List ℕ) (a k : ℕ) (line : List ℕ) (size : ℕ) : Type 0 where
  pub adds : Adds (data_line a (take 1 (drop k image)) (get_or image k 0)) [] line
  pub counts : size ≡ 1
