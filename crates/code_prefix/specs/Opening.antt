-- What the bytes from the byte i on open with, where p is what the prefixes before them say.
use Rattle.std.specs.Prelude.{ℕ, ◌-◌, ◌≤◌, ◌≡◌, Result, Ok, Err}
use Rattle.sheet.specs.declared.Instr.{Instr}
use Rattle.sheet.specs.declared.Prefixes.{Prefixes}
use Rattle.sheet.specs.declared.Refusal.{Refusal}
use Rattle.sheet.specs.declared.Refusal.TheVariants.{FourthPrefix}
use Rattle.sheet.specs.FirstByte.{first_bytes, prefixed}
use Rattle.code_answer.specs.Answer.{Answer, Decodes, Names}
use Rattle.code_prefix.specs.declared.Opening.{Opening}

-- a first byte after fewer than four prefixes, which decides the answer
pub record Begins (p : Prefixes) (src : ℕ → ℕ) (i : ℕ) (o : Opening) : Type 0 where
  pub within : o.next ≤ 4
  pub decided : (r : Answer Instr) → Names (first_bytes o.prefixes) o.byte src o.next r → Decodes (prefixed (3 - i) p) src i r

-- or a fourth prefix, which is refused
abbrev pub Opened : (p : Prefixes) (src : ℕ → ℕ) (i : ℕ) → Result Opening Refusal → Type 0
Opened p src i (Ok o) = Begins p src i o
Opened p src i (Err e) = (e ≡ FourthPrefix) × Decodes (prefixed (3 - i) p) src i (Err e)

pub record Opens (p : Prefixes) (src : ℕ → ℕ) (i : ℕ) (s : Result Opening Refusal) : Type 0 where
  pub is : Opened p src i s
