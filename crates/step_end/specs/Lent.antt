-- What the single-step trap does with what it is lent.
use Rattle.std.specs.Prelude.{Bool}
use Rattle.sheet.specs.declared.Marks.{Marks}
use Rattle.mach_tally.specs.Lent.{Lent, LentToRead}
use Rattle.step_end.specs.declared.Finished.{Finished}
use Rattle.step_end.specs.Finishes.{Finishes}

abbrev pub FinishesOn : Bool → Lent → Lent → LentToRead → Marks → Finished → Type 0
FinishesOn traced file ram rom m r =
    Finishes traced file.entry.now ram.entry.now rom.entry.now m file.exit.now ram.exit.now r.marks r.bus
