-- What a mod-reg-mem byte names, for code that takes its fields.
use Rattle.std.specs.Prelude.{ℕ, ◌+◌, ◌≤◌, ◌<◌, ◌≡◌, None, ok_or, Result, Ok, Err, eqb, get_or}
use Rattle.sheet.specs.declared.Address.{Address}
use Rattle.sheet.specs.declared.Place.{Place}
use Rattle.sheet.specs.declared.Place.TheVariants.{Register, Memory}
use Rattle.sheet.specs.declared.Shift.{Shift}
use Rattle.sheet.specs.declared.Prefixes.{Prefixes}
use Rattle.sheet.specs.declared.Refusal.{Refusal}
use Rattle.sheet.specs.declared.Refusal.TheVariants.{UnknownInstruction}
use Rattle.sheet.specs.Width.{pick}
use Rattle.sheet.specs.Reading.{byte}
use Rattle.sheet.specs.Encoding.{reg_field, place}
use Rattle.sheet.specs.FirstByte.{shifts}
use Rattle.sheet.specs.Contract.{Reads}

-- a mod-reg-mem byte after i bytes: its reg field, the operand of its other fields, and how many bytes were read then
pub record Operands (p : Prefixes) (src : ℕ → ℕ) (i reg : ℕ) (a : Place) (j : ℕ) : Type 0 where
  pub m : ℕ
  pub below : m < 256
  pub code : Reads ℕ byte src i m (i + 1)
  pub field : reg ≡ reg_field m
  pub named : Reads Place (place p m) src (i + 1) a j
  pub most : j ≤ i + 3

-- the operand where it has to stand in memory
abbrev pub memory_of : Place → Result Address Refusal
memory_of (Memory b) = Ok b
memory_of (Register n) = Err UnknownInstruction

-- where the reg field has to be 0
abbrev pub plain_of : ℕ → Place → Result Place Refusal
plain_of reg a = pick (eqb reg 0) (Ok a) (Err UnknownInstruction)

-- the shift that the reg field names
abbrev pub shift_of : ℕ → Result Shift Refusal
shift_of reg = ok_or (get_or shifts reg None) UnknownInstruction
