-- What a session's turns do with what they are lent.
use Rattle.std.specs.Prelude.{ℕ, Option}
use Rattle.mach_tally.specs.Lent.{Lent, LentToRead}
use Rattle.console_schedule.specs.declared.Call.{Call}
use Rattle.console_turns.specs.declared.Session.{Session}
use Rattle.console_turns.specs.declared.Next.{Next}
use Rattle.console.specs.declared.session.Setting.{Setting}
use Rattle.console.specs.Turns.{Called, Continued, Turn, Plays}

abbrev pub CalledOn : Call → Setting → Session → Lent → LentToRead → Session → Type 0
CalledOn call set s ram log r = Called call set.plan s ram.entry.now set.rom.now set.tape.now log.entry.now r ram.exit.now

abbrev pub ContinuedOn : Option Next → Setting → Session → Lent → Lent → Session → Type 0
ContinuedOn next set s ram log r =
    Continued next set.plan s ram.entry.now set.rom.now set.tape.now log.entry.now r ram.exit.now log.exit.now

abbrev pub TurnOn : Setting → Session → Lent → Lent → Session → Type 0
TurnOn set s ram log r =
    Turn set.calls.now set.plan s ram.entry.now set.rom.now set.tape.now log.entry.now r ram.exit.now log.exit.now

abbrev pub PlaysOn : ℕ → Setting → Session → Lent → Lent → Session → Type 0
PlaysOn turns set s ram log r =
    Plays turns set.calls.now set.plan s ram.entry.now set.rom.now set.tape.now log.entry.now
    r ram.exit.now log.exit.now
