-- Text of one line: every character is a space or stands behind it in the code table.
use Rattle.std.specs.Prelude.{ℕ, ◌≤◌, List, [], ◌∷◌}

pub data Printed : List ℕ → Type 0 where
  no_more : Printed []
  and_then_lem : {c : ℕ} {l : List ℕ} → 32 ≤ c → Printed l → Printed (c ∷ l)
