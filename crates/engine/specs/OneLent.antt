-- What an instruction of an awake machine does with what it is lent.
use Rattle.std.specs.Prelude.{ℕ, Bool, not, ◌&&◌, Result}
use Rattle.sheet.specs.declared.Marks.{Marks}
use Rattle.sheet.specs.declared.Progress.{Progress}
use Rattle.sheet.specs.declared.Instr.{Instr}
use Rattle.sheet.specs.declared.Refusal.{Refusal}
use Rattle.sheet.specs.Refusals.{number_in}
use Rattle.mach_tally.specs.Lent.{Lent, LentToRead}
use Rattle.engine.specs.declared.execute.Performed.{Performed}
use Rattle.step_answer.specs.declared.Advanced.{Advanced}
use Rattle.step_answer.specs.Steps.{advanced_in}
use Rattle.engine.specs.Proceeds.{Settles, Proceeds}

-- what follows an instruction that came to p
abbrev pub SettlesOn : Bool → Performed → Lent → Lent → LentToRead → Advanced → Type 0
SettlesOn traced p file ram rom r =
    Settles (traced && not p.trapped) p.marks p.progress p.bus file.entry.now ram.entry.now rom.entry.now
    0 r.marks r.progress file.exit.now ram.exit.now r.bus

abbrev pub ProceedsOn : Instr → ℕ → Lent → Lent → LentToRead → LentToRead → Lent → Marks → Progress → Result Advanced Refusal → Type 0
ProceedsOn i size file ram rom tape log m q r =
    Proceeds i size file.entry.now ram.entry.now rom.entry.now tape.entry.now log.entry.now m q
    (number_in r) (advanced_in m q r).marks (advanced_in m q r).progress
    file.exit.now ram.exit.now log.exit.now (advanced_in m q r).bus
