-- What an instruction that may trap comes to. Whether it trapped matters to a traced machine alone.
use Rattle.std.specs.Prelude.{ℕ, Bool, List}
use Rattle.sheet.specs.declared.Bus.{Bus}
use Rattle.sheet.specs.Act.{Act}
use Rattle.sheet.specs.Contract.{OnMemory}
use Rattle.mach_tally.specs.Lent.{Lent, LentToRead}

pub record Tries (p : Act Bool) (f ram rom g ram' : List ℕ) (n : Bus) (top : ℕ) : Type 0 where
  pub trapped : Bool
  pub does : OnMemory Bool p f ram rom trapped g ram' n top

abbrev pub TriesOn : Act Bool → Lent → Lent → LentToRead → Bus → ℕ → Type 0
TriesOn p file ram rom n top = Tries p file.entry.now ram.entry.now rom.entry.now file.exit.now ram.exit.now n top
