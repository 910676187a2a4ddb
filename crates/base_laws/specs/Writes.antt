-- Bytes written to the start of a part of a slice.
use Rattle.std.specs.Prelude.{◌≡◌, List, ◌++◌, ℕ, ◌≤◌, length, drop}

-- x over the start of s
abbrev pub over : List ℕ → List ℕ → List ℕ
over x s = x ++ drop (length x) s

-- what a writer says: it wrote x to s, which it left as l, and answered r
pub record Writes (x s : List ℕ) (r : ℕ) (l : List ℕ) : Type 0 where
  pub count : r ≡ length x
  pub within : r ≤ length s
  pub left : l ≡ over x s
