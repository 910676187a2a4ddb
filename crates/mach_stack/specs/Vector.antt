-- What fetching a vector comes to: its two words stand at even addresses; and what is saved around a change of PSW.
use Rattle.std.specs.Prelude.{ℕ, ◌+◌, ◌*◌, ◌≤◌, true, get_or, set, List, ◌≡◌}
use Rattle.mach_tally.specs.Bounds.{Fair}
use Rattle.sheet.specs.declared.Bus.{Bus}
use Rattle.sheet.specs.declared.Marks.{Marks}
use Rattle.sheet.specs.Registers.{PSW}
use Rattle.sheet.specs.Act.{Act, peek}
use Rattle.sheet.specs.Handler.{nothing, ◌⊕◌}
use Rattle.sheet.specs.Contract.{OnMemory, OnMarks}
use Rattle.mach_tally.specs.Lent.{Lent, LentToRead}

pub record Fetches (ram rom : List ℕ) (v pc ps : ℕ) (n : Bus) : Type 0 where
  pub most : n.cycles ≤ 2
  pub fair : Fair n
  pub first : Bus
  pub second : Bus
  pub sum : n ≡ first ⊕ second
  pub offset : (f : List ℕ) → OnMemory ℕ (peek true 0 (4 * v)) f ram rom pc f ram first 1
  pub base : (f : List ℕ) → OnMemory ℕ (peek true 0 (4 * v + 2)) f ram rom ps f ram second 1

-- a tree that makes x of PSW, and m' of the marks
abbrev pub Changes : Act Unit → (psw x : ℕ) → Marks → Marks → Type 0
Changes change psw x m m' = (f ram rom : List ℕ) → get_or f PSW 0 ≡ psw → OnMarks Unit change f ram rom m tt (set f PSW x) ram m' nothing 0

-- a tree around such a change
pub record Surrounds (tree : Act Unit → Act Unit) (x : ℕ) (f ram rom f' ram' : List ℕ) (n : Bus) (top : ℕ) : Type 0 where
  pub most : n.cycles ≤ top
  pub fair : n.dropped ≤ 2 * n.cycles
  pub at : (change : Act Unit) (m m' : Marks) → Changes change (get_or f PSW 0) x m m' → OnMarks Unit (tree change) f ram rom m tt f' ram' m' n top

abbrev pub Around : (Act Unit → Act Unit) → ℕ → Lent → Lent → LentToRead → Bus → ℕ → Type 0
Around tree x file ram rom n top = Surrounds tree x file.entry.now ram.entry.now rom.entry.now file.exit.now ram.exit.now n top
