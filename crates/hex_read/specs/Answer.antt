-- The number and the line of a reading's answer.
use Rattle.std.specs.Prelude.{ℕ, Result, Ok, Err}
use Rattle.sheet.specs.Refusals.{refusal_number}
use Rattle.hex_read.specs.declared.Faulty.{Faulty}

-- 0 and 0 for a good text
abbrev pub reading_number : {A : Type 0} → Result A Faulty → ℕ
reading_number (Ok a) = 0
reading_number (Err f) = refusal_number f.refusal

abbrev pub reading_line : {A : Type 0} → Result A Faulty → ℕ
reading_line (Ok a) = 0
reading_line (Err f) = f.line
