-- How much a call wrote that may refuse.
use Rattle.std.specs.Prelude.{ℕ, Result, Ok, Err}

-- nothing where it refused
abbrev pub length_in : {E : Type 0} → Result ℕ E → ℕ
length_in (Ok n) = n
length_in (Err e) = 0
