-- What code that is lent the marks comes to.
use Rattle.std.specs.Prelude.{ℕ, List}
use Rattle.sheet.specs.declared.Bus.{Bus}
use Rattle.sheet.specs.declared.Marks.{Marks}
use Rattle.sheet.specs.Act.{Act}
use Rattle.sheet.specs.Handler.{nothing}
use Rattle.sheet.specs.Mode.{take_back}
use Rattle.sheet.specs.Contract.{OnMarks}
use Rattle.mach_tally.specs.Lent.{Lent, LentToRead}

-- a stored PSW is taken back; the registers f become f'
pub record TakesBack (x : ℕ) (f : List ℕ) (m : Marks) (f' : List ℕ) : Type 0 where
  pub at : (ram rom : List ℕ) → OnMarks Unit (take_back x) f ram rom m tt f' ram m nothing 0

-- registers and marks are written, and RAM becomes ram'
abbrev pub Leaves : Act Unit → Lent → List ℕ → LentToRead → Marks → List ℕ → Marks → Bus → ℕ → Type 0
Leaves p file ram rom m ram' m' n top = OnMarks Unit p file.entry.now ram rom.entry.now m tt file.exit.now ram' m' n top
