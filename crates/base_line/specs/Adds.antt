-- What is said of a function that puts text into a line.
use Rattle.std.specs.Prelude.{ℕ, ◌≤◌, ◌≡◌, List, ◌++◌, length, take}
use Rattle.std.specs.Borrow.{MutBor}
use denote.Triple.Both.{Both}

-- where there is room, x is put behind the text that stands there
pub record Adds (x line line' : List ℕ) : Type 0 where
  pub adds : length (line ++ x) ≤ 80 → line' ≡ line ++ x

-- the same of a line that is lent
abbrev pub AddsTo : List ℕ → Both (MutBor (List ℕ)) (MutBor (List ℕ)) → Type 0
AddsTo x line = Adds x line.entry.now line.exit.now

-- the first r of 80 bytes are a text
pub record Holds (line : List ℕ) (r : ℕ) (text : List ℕ) : Type 0 where
  pub long : length line ≡ 80
  pub count : r ≡ length text
  pub first : take r line ≡ text

-- where 80 bytes have the room, x is put behind the text that stands at their start, and r is where it ends
pub record Puts (x line : List ℕ) (at r : ℕ) (line' : List ℕ) : Type 0 where
  pub puts : (text : List ℕ) → length (text ++ x) ≤ 80 → Holds line at text → Holds line' r (text ++ x)

-- the same of 80 bytes that are lent
abbrev pub PutsTo : List ℕ → Both (MutBor (List ℕ)) (MutBor (List ℕ)) → ℕ → ℕ → Type 0
PutsTo x line at r = Puts x line.entry.now at r line.exit.now
