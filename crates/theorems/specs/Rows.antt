-- The records that the log must hold: one for each port access, whose gap counts the finished steps since the record before.
use Rattle.std.specs.Prelude.{ℕ, zero, suc, ◌+◌, min, Bool, true, false, List, [], ◌∷◌, ◌++◌}
use Rattle.sheet.specs.Log.{ceiling, rule, key_of}
use Rattle.sheet.specs.World.{World}
use Rattle.sheet.specs.Handler.{Event, reads, writes, takes, gives, asks, copies, changes, Outcome, refused, done}
use Rattle.sheet.specs.Step.{step}
use Rattle.sheet.specs.Run.{FinishedStep, begun_in}
use Rattle.log_record.specs.Whole.{Row}

-- what an event is to the log: nothing, or an access to a port
pub data Use : Type 0 where
  none : Use
  access : (out word : Bool) → (port value : ℕ) → Use

abbrev pub use_of : Event → Use
use_of (reads b g o) = none
use_of (writes b g o v d) = none
use_of (takes b n v) = access false b n v
use_of (gives b n v) = access true b n v
use_of (asks f) = none
use_of (copies b) = none
use_of (changes c) = none

abbrev pub row_of : ℕ → ℕ → ℕ → Row
row_of gap key value = record { gap = gap; key = key; value = value }

-- n steps are finished since the record before, this one included: the gap is n, or the ceiling
abbrev pub rows_of_use : ℕ → Use → List Row
rows_of_use n none = []
rows_of_use n (access out word port value) = row_of (min n (ceiling rule)) (key_of out word port) value ∷ []

-- how many are finished since a record, behind that event
abbrev pub since_use : ℕ → Use → ℕ
since_use n none = n
since_use n (access out word port value) = 0

-- the records of a step's events, and the steps since a record that they leave
unfoldable pub rows_of : ℕ → List Event → List Row
rows_of n [] = []
rows_of n (e ∷ t) = rows_of_use n (use_of e) ++ rows_of (since_use n (use_of e)) t

unfoldable pub since : ℕ → List Event → ℕ
since n [] = n
since n (e ∷ t) = since (since_use n (use_of e)) t

-- the records of finished steps, n steps after the record before
unfoldable pub rows_along : ℕ → List FinishedStep → List Row
rows_along n [] = []
rows_along n (s ∷ l) = rows_of (n + 1) s.events ++ rows_along (since (n + 1) s.events) l

unfoldable pub since_along : ℕ → List FinishedStep → ℕ
since_along n [] = n
since_along n (s ∷ l) = since_along (since (n + 1) s.events) l

-- ---- at most k steps from a world, up to the first that is refused

abbrev pub finished : World → Outcome Unit → (World → List FinishedStep) → List FinishedStep
finished w (refused n t) rest = []
finished w (done a v t) rest = begun_in w t ∷ rest v

-- those that are finished
unfoldable pub steps_from : ℕ → World → List FinishedStep
steps_from zero w = []
steps_from (suc k) w = finished w (step w) (steps_from k)

abbrev pub leading : World → Outcome Unit → (World → World) → World
leading w (refused n t) rest = w
leading w (done a v t) rest = rest v

-- where they lead
unfoldable pub world_after : ℕ → World → World
world_after zero w = w
world_after (suc k) w = leading w (step w) (world_after k)
