-- What an instruction does with what it is lent.
use Rattle.std.specs.Prelude.{Bool, false, Result, Ok, Err}
use Rattle.sheet.specs.declared.Marks.{Marks}
use Rattle.sheet.specs.declared.Progress.{Progress}
use Rattle.sheet.specs.declared.Refusal.{Refusal}
use Rattle.sheet.specs.Refusals.{number_in}
use Rattle.sheet.specs.Handler.{nothing}
use Rattle.sheet.specs.Act.{Act}
use Rattle.mach_tally.specs.Lent.{Lent, LentToRead}
use Rattle.engine.specs.declared.execute.Performed.{Performed}
use Rattle.engine.specs.Performs.{Performs}

-- a refusal leaves marks and places as they were, takes no trap and makes no access
abbrev pub performed_in : Marks → Progress → Result Performed Refusal → Performed
performed_in m q (Ok p) = p
performed_in m q (Err e) = record { trapped = false; marks = m; progress = q; bus = nothing }

abbrev pub PerformsOn : Act Bool → Lent → Lent → LentToRead → LentToRead → Lent → Marks → Progress → Result Performed Refusal → Type 0
PerformsOn p file ram rom tape log m q r =
    Performs p file.entry.now ram.entry.now rom.entry.now tape.entry.now log.entry.now m q
    (number_in r) (performed_in m q r).trapped (performed_in m q r).marks
    file.exit.now ram.exit.now log.exit.now (performed_in m q r).progress (performed_in m q r).bus
