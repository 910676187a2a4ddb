-- The machine with what it is lent, and the setters of its parts.
-- 01:13, 17; 02 f, m
use Rattle.std.specs.Prelude.{ℕ, ◌+◌, Bool, true, false, List, get_or, set}
use Rattle.sheet.specs.declared.State.{State}
use Rattle.sheet.specs.declared.Marks.{Marks}
use Rattle.sheet.specs.declared.Progress.{Progress}
use Rattle.sheet.specs.Width.{pick}
use Rattle.sheet.specs.Psw.{in_mode, Crossing, to_native, to_cards, back, stored}
use Rattle.sheet.specs.Registers.{PSW}

pub record World : Type 0 where
  pub state : State
  pub ram : List ℕ
  pub rom : List ℕ
  pub tape : List ℕ
  pub log : List ℕ

abbrev pub world : State → List ℕ → List ℕ → List ℕ → List ℕ → World
world s ram rom tape log = record { state = s; ram = ram; rom = rom; tape = tape; log = log }

abbrev pub with_state : World → State → World
with_state w s = world s w.ram w.rom w.tape w.log

abbrev pub with_ram : World → List ℕ → World
with_ram w ram = world w.state ram w.rom w.tape w.log

-- ---- the state

abbrev pub psw_of : State → ℕ
psw_of s = get_or s.file PSW 0

-- the state of these parts: the only place that writes one down
abbrev pub state_of : List ℕ → Marks → Progress → State
state_of f m q = record { file = f; marks = m; progress = q }

abbrev pub with_file : State → List ℕ → State
with_file s f = state_of f s.marks s.progress

abbrev pub with_psw : State → ℕ → State
with_psw s x = with_file s (set s.file PSW x)

abbrev pub with_marks : State → Marks → State
with_marks s m = state_of s.file m s.progress

abbrev pub with_progress : State → Progress → State
with_progress s q = state_of s.file s.marks q

-- the marks of these: the only place that writes them down
abbrev pub marks_of : Bool → Bool → Bool → Marks
marks_of halted loaded writable = record { halted = halted; loaded = loaded; writable = writable }

-- the halted mark, set or not
abbrev pub mark_halted : Marks → Bool → Marks
mark_halted m b = marks_of b m.loaded m.writable

-- the mark of a segment load, set or not
abbrev pub mark_loaded : Marks → Bool → Marks
mark_loaded m b = marks_of m.halted b m.writable

-- the permission to write MD, given or not
abbrev pub mark_writable : Marks → Bool → Marks
mark_writable m b = marks_of m.halted m.loaded b

abbrev pub with_halted : State → Bool → State
with_halted s b = with_marks s (mark_halted s.marks b)

-- MD becomes b
abbrev pub with_mode : State → Bool → State
with_mode s b = with_psw s (in_mode b (psw_of s))

-- the mode and the permission after a crossing
unfoldable pub crossed : Crossing → State → State
crossed to_native s = with_mode s true
crossed to_cards s = with_mode (with_marks s (mark_writable s.marks true)) false
crossed back s = with_mode (with_marks s (mark_writable s.marks false)) true
crossed (stored b) s = pick s.marks.writable (with_mode s b) s

abbrev pub progress_of : ℕ → ℕ → ℕ → Progress
progress_of tape log count = record { tape = tape; log = log; count = count }

abbrev pub with_count : State → ℕ → State
with_count s n = with_progress s (progress_of s.progress.tape s.progress.log n)

-- a record of n bytes was written and m tape bytes were taken: the places move, and the count starts anew
abbrev pub recorded : State → ℕ → ℕ → State
recorded s m n = with_progress s (progress_of (s.progress.tape + m) (s.progress.log + n) 0)
