-- The stand of a session, the next call of its schedule, and what calls and runs make of the stand.
use Rattle.std.specs.Prelude.{ℕ, ◌+◌, ◌-◌, ◌%◌, ◌^◌, min, Bool, false, not, ◌&&◌, ◌||◌, List, ◌==◌, nat_le, nat_lt, slice_index, slice_get, Option, Some, None, option_map, Result, Ok, Err, is_ok}
use Rattle.sheet.specs.declared.Bus.{Bus}
use Rattle.sheet.specs.declared.Refusal.{Refusal}
use Rattle.sheet.specs.declared.State.{State}
use Rattle.sheet.specs.Refusals.{refusal_number, number_in}
use Rattle.sheet.specs.Width.{pick}
use Rattle.sheet.specs.Memory.{physical}
use Rattle.sheet.specs.Registers.{PS, PC}
use Rattle.sheet.specs.World.{with_progress, progress_of}
use Rattle.console_schedule.specs.declared.Call.{Call}
use Rattle.console_turns.specs.declared.Session.{Session}
use Rattle.console_turns.specs.declared.Next.{Next}
use Rattle.console_turns.specs.declared.Plan.{Plan}

-- sums are modulo 2^64
abbrev pub sum64 : ℕ → ℕ → ℕ
sum64 a b = (a + b) % 2 ^ 64

-- before the first step
abbrev pub begun : State → Session
begun t = record { end = Ok tt; state = t; steps = 0; cycles = 0; dropped = 0; made = 0; refused = 0; emptied = 0; over = false }

-- ---- the schedule

unfoldable pub next_of : List Call → ℕ → Option Next
next_of calls made = option_map (λ c. record { due = c.step; call = c }) (slice_get calls made)

-- a call that would be answered 13, after a segment load, is made after the next step
abbrev pub deferred : Session → Next → Next
deferred s n = pick (s.state.marks.loaded && nat_le n.due s.steps) (record { due = sum64 s.steps 1; call = n.call }) n

-- the next call
unfoldable pub coming_of : Session → List Call → Option Next
coming_of s calls = option_map (deferred s) (next_of calls s.made)

-- without a call none is ever due
abbrev pub due_of : Option Next → ℕ
due_of (Some n) = n.due
due_of None = 18446744073709551615

-- a call is made when its step is reached, or when the machine is halted, so that no step will be; at the limit none is
unfoldable pub is_called : Session → Next → ℕ → Bool
is_called s n limit = nat_lt s.steps limit && (nat_le n.due s.steps || s.state.marks.halted)

-- the call that is made before the next step, if one is
unfoldable pub call_now : Session → Option Next → ℕ → Option Call
call_now s (Some n) limit = pick (is_called s n limit) (Some n.call) None
call_now s None limit = None

-- ---- a run goes to the limit or to the next call, in pieces of one step, or of at most 65,535

unfoldable pub budget_of : ℕ → ℕ → ℕ → Bool → ℕ
budget_of steps limit due single = min (min (limit - steps) (due - steps)) (pick single 1 65535)

-- ---- what a turn makes of the stand

-- the address that ends a session, if one does
abbrev pub is_until : Option ℕ → ℕ → Bool
is_until (Some a) at = at == a
is_until None at = false

-- an accepted call or a run that ends where the plan says ends the session
unfoldable pub arrives : Plan → Bool → State → Bool
arrives plan done t = done && is_until plan.until (physical (slice_index t.file PS) (slice_index t.file PC))

unfoldable pub answered_by : Session → Plan → Bool → State → Bus → Session
answered_by s plan done t n = record {
  end = Ok tt;
  state = t;
  steps = s.steps;
  cycles = sum64 s.cycles n.cycles;
  dropped = sum64 s.dropped n.dropped;
  made = sum64 s.made 1;
  refused = sum64 s.refused (pick done 0 1);
  emptied = s.emptied;
  over = arrives plan done t;
}

-- a halted machine waits for a call that is still to come
unfoldable pub goes_on : Result Unit Refusal → ℕ → ℕ → Bool → Bool
goes_on (Ok u) steps limit waits = nat_lt steps limit
goes_on (Err r) steps limit waits = refusal_number r == 8 && waits

unfoldable pub stood_by : Session → Plan → Result Unit Refusal → State → ℕ → Bus → Bool → Session
stood_by s plan end t k n waits = record {
  end = end;
  state = t;
  steps = sum64 s.steps k;
  cycles = sum64 s.cycles n.cycles;
  dropped = sum64 s.dropped n.dropped;
  made = s.made;
  refused = s.refused;
  emptied = s.emptied;
  over = arrives plan (is_ok end) t || not (goes_on end (sum64 s.steps k) plan.limit waits);
}

-- a log that nobody keeps is emptied where it is full: the count of steps since the last record stays, and so does the gap of the next one
abbrev pub log_emptied : State → State
log_emptied t = with_progress t (progress_of t.progress.tape 0 t.progress.count)

unfoldable pub is_emptied : Plan → Result Unit Refusal → State → Bool
is_emptied plan end t = not plan.keeps && (number_in end == 6 && not (t.progress.log == 0))

unfoldable pub emptied_by : Session → State → ℕ → Bus → Session
emptied_by s t k n = record {
  end = Ok tt;
  state = log_emptied t;
  steps = sum64 s.steps k;
  cycles = sum64 s.cycles n.cycles;
  dropped = sum64 s.dropped n.dropped;
  made = s.made;
  refused = s.refused;
  emptied = sum64 s.emptied t.progress.log;
  over = false;
}

unfoldable pub ran_by : Session → Plan → Result Unit Refusal → State → ℕ → Bus → Bool → Session
ran_by s plan end t k n waits = pick (is_emptied plan end t) (emptied_by s t k n) (stood_by s plan end t k n waits)
