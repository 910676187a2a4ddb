-- How a reading comes from a window, and a memo of readings.
use Rattle.std.specs.Prelude.{ℕ, ◌≤◌, ◌<◌, ◌≡◌, List, get_or, length}
use Rattle.sheet.specs.FirstByte.{instruction}
use Rattle.code_answer.specs.Answer.{known_as, Decodes}
use Rattle.quick_place.specs.Packed.{byte_of, size_of}
use Rattle.quick_pack.specs.Readings.{instr_of}
use Rattle.quick_reading.specs.declared.Slot.{Slot}

-- r is 0, and says nothing; or it is the instruction that the window begins with
pub data Means (w r : ℕ) : Type 0 where
  general : r ≡ 0 → Means w r
  quick : size_of r ≤ 8 → Decodes instruction (byte_of w) 0 (known_as (instr_of r) (size_of r)) → Means w r

-- what stands in a slot that no window has come to
abbrev pub unused : Slot
unused = record { window = 0; reading = record { bits = 0 } }

-- windows with their readings
pub record Remembers (memo : List Slot) : Type 0 where
  pub long : length memo ≡ 1024
  pub at : (i : ℕ) → i < 1024 → Means (get_or memo i unused).window (get_or memo i unused).reading.bits
