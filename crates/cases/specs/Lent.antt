-- What answers a case, of what its call is lent.
use Rattle.std.specs.Prelude.{List, ℕ}
use Rattle.sheet.specs.declared.State.{State}
use Rattle.mach_tally.specs.Lent.{Lent, LentToRead}
use Rattle.case_form.specs.declared.Case.{Case}
use Rattle.cases.specs.declared.call.Done.{Done}
use Rattle.cases.specs.Called.{Called, Result}

abbrev pub CalledOn : Case → State → Lent → LentToRead → LentToRead → Lent → Done → Type 0
CalledOn c s ram rom tape log r =
    Called c s ram.entry.now rom.entry.now tape.entry.now log.entry.now r ram.exit.now log.exit.now

abbrev pub ResultOn : Case → State → Lent → LentToRead → LentToRead → Lent → List ℕ → Type 0
ResultOn c s ram rom tape log r =
    Result c s ram.entry.now rom.entry.now tape.entry.now log.entry.now ram.exit.now log.exit.now r
