-- What code that is lent registers and memory does; ram and rom that are only read are as at the entry.
use Rattle.std.specs.Prelude.{ℕ, List}
use Rattle.std.specs.Borrow.{Bor, MutBor}
use denote.Triple.Both.{Both}
use Rattle.sheet.specs.declared.Bus.{Bus}
use Rattle.sheet.specs.Act.{Act}
use Rattle.sheet.specs.Contract.{OnMemory}

-- lent by `&mut`, and by `&`, at the entry and at the exit
abbrev pub Lent : Type 0
Lent = Both (MutBor (List ℕ)) (MutBor (List ℕ))

abbrev pub LentToRead : Type 0
LentToRead = Both (Bor (List ℕ)) (Bor (List ℕ))

-- it may write registers and RAM, and hands on a value
abbrev pub Gives : (A : Type 0) → Act A → Lent → Lent → LentToRead → A → Bus → ℕ → Type 0
Gives A p file ram rom a n top = OnMemory A p file.entry.now ram.entry.now rom.entry.now a file.exit.now ram.exit.now n top

-- it may write registers and RAM
abbrev pub Does : Act Unit → Lent → Lent → LentToRead → Bus → ℕ → Type 0
Does p file ram rom n top = Gives Unit p file ram rom tt n top

-- it may write registers, and hands on a value
abbrev pub Takes : (A : Type 0) → Act A → Lent → LentToRead → LentToRead → A → Bus → ℕ → Type 0
Takes A p file ram rom a n top = OnMemory A p file.entry.now ram.entry.now rom.entry.now a file.exit.now ram.entry.now n top

-- it may write RAM, and hands on a value
abbrev pub Fills : (A : Type 0) → Act A → LentToRead → Lent → LentToRead → A → Bus → ℕ → Type 0
Fills A p file ram rom a n top = OnMemory A p file.entry.now ram.entry.now rom.entry.now a file.entry.now ram.exit.now n top

-- it writes nothing, and hands on a value
abbrev pub Finds : (A : Type 0) → Act A → LentToRead → LentToRead → LentToRead → A → Bus → ℕ → Type 0
Finds A p file ram rom a n top = OnMemory A p file.entry.now ram.entry.now rom.entry.now a file.entry.now ram.entry.now n top
