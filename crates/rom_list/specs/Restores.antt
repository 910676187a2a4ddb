-- What one character of a line does to the reader, and what is said of the reader.
use Rattle.std.specs.Prelude.{ℕ, ◌<◌, Bool, ◌&&◌, List, length, Option, Some, None}
use Rattle.sheet.specs.Width.{pick, odd}
use Rattle.base_laws.specs.Writes.{Writes}
use Rattle.rom_form.specs.Restored.{digit_of, is_digit, restored}

-- the second digit of a byte
unfoldable pub ends_byte : (column c : ℕ) → Bool
ends_byte column c = is_digit column c && odd column

-- the first digit of the byte that is read, once c was read, which ends neither byte nor line
unfoldable pub high_after : (column h c : ℕ) → ℕ
high_after column h c = pick (is_digit column c) (digit_of c) h

-- the image that the lines name stands at the start of the room, or is too long for it
abbrev pub Restores : (lines room : List ℕ) → Option ℕ → (room' : List ℕ) → Type 0
Restores lines room (Some n) room' = Writes (restored lines) room n room'
Restores lines room None room' = length room < length (restored lines)
