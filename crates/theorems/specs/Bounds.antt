-- What is said of a call's bus cycles and of its refusals.
use Rattle.std.specs.Prelude.{ℕ, ◌+◌, ◌%◌, ◌≤◌, true, false, List, [], ◌∷◌, ◌≡◌, length, get_or}
use Rattle.sheet.specs.declared.Bus.{Bus}
use Rattle.sheet.specs.declared.Instr.{Instr}
use Rattle.sheet.specs.Width.{bytes_of}
use Rattle.sheet.specs.Registers.{SP, BP}
use Rattle.sheet.specs.Handler.{Event, reads, writes, takes, gives, asks, copies, changes}
use Rattle.sheet.specs.World.{World, world, marks_of}
use Rattle.sheet.specs.Contract.{Seen, stops, ends, report}
use Rattle.sheet.specs.Reading.{known}
use Rattle.sheet.specs.Step.{fits, sound, step_report, instruction_in}
use Rattle.theorems.specs.StandIns.{machine}

-- a lent buffer holds bytes
abbrev pub Bytes : List ℕ → Type 0
Bytes l = (i : ℕ) → get_or l i 0 ≤ 255

-- the most that a step and an interrupt call make
abbrev pub step_top : ℕ
step_top = 1028

abbrev pub interrupt_top : ℕ
interrupt_top = 8

-- the most bytes that they drop
abbrev pub drop_top : ℕ
drop_top = 518

abbrev pub interrupt_drop_top : ℕ
interrupt_drop_top = 6

-- their refusals, as they are checked
abbrev pub step_refusals : List ℕ
step_refusals = 1 ∷ 2 ∷ 8 ∷ 3 ∷ 4 ∷ 5 ∷ 6 ∷ []

abbrev pub interrupt_refusals : List ℕ
interrupt_refusals = 1 ∷ 2 ∷ 13 ∷ 7 ∷ []

-- a number is on a list
pub data Among (k : ℕ) : List ℕ → Type 0 where
  first : {l : List ℕ} → Among k (k ∷ l)
  later : {j : ℕ} {l : List ℕ} → Among k l → Among k (j ∷ l)

-- what a call comes to: an end in at most n bus cycles, or one of these refusals
pub data Comes (n : ℕ) (refusals : List ℕ) : Seen Unit → Type 0 where
  ends_in : {w : World} {m : Bus} → m.cycles ≤ n → Comes n refusals (ends tt w m)
  stops_by : {k : ℕ} → Among k refusals → Comes n refusals (stops k)

-- ---- what is written

-- the bytes that an event writes, landed or dropped
abbrev pub written_by : Event → ℕ
written_by (reads b g o) = 0
written_by (writes b g o v d) = bytes_of b
written_by (takes b n v) = 0
written_by (gives b n v) = 0
written_by (asks f) = 0
written_by (copies b) = 0
written_by (changes c) = 0

unfoldable pub bytes_written : List Event → ℕ
bytes_written [] = 0
bytes_written (e ∷ t) = written_by e + bytes_written t

-- ---- PREPARE

-- a step that is to be made and finds this instruction of n bytes
pub record Finds (w : World) (i : Instr) (n : ℕ) : Type 0 where
  pub fit : fits w ≡ true
  pub good : sound w ≡ true
  pub up : w.state.marks.halted ≡ false
  pub there : instruction_in w ≡ known i n

-- fourteen registers, SP and BP odd
pub record Odd (f : List ℕ) : Type 0 where
  pub whole : length f ≡ 14
  pub sp : get_or f SP 0 % 2 ≡ 1
  pub bp : get_or f BP 0 % 2 ≡ 1

abbrev pub OddIn : World → Type 0
OddIn w = Odd w.state.file

-- PREPARE 0,255 at 0:0, SP and BP 1, and this PSW
abbrev pub preparing : ℕ → World
preparing psw = machine (0 ∷ 0 ∷ 0 ∷ 0 ∷ 1 ∷ 1 ∷ 0 ∷ 0 ∷ 0 ∷ 0 ∷ 0 ∷ 0 ∷ 0 ∷ psw ∷ []) false 0 (0xc8 ∷ 0x00 ∷ 0x00 ∷ 0xff ∷ [])

-- the same in ROM, at FFFF:000C, without RAM and with BRK set
abbrev pub preparing_in_rom : World
preparing_in_rom =
    world (record { file = 0 ∷ 0 ∷ 0 ∷ 0 ∷ 1 ∷ 1 ∷ 0 ∷ 0 ∷ 0 ∷ 0xffff ∷ 0 ∷ 0 ∷ 0xc ∷ 0xf102 ∷ []; marks = marks_of false false false; progress = record { tape = 0; log = 0; count = 0 } })
    [] (0xc8 ∷ 0x00 ∷ 0x00 ∷ 0xff ∷ []) [] []

-- the step is accepted, and one of the numbers of its bus is exactly n
pub record Reaches (of : Bus → ℕ) (w : World) (n : ℕ) : Type 0 where
  pub after : World
  pub bus : Bus
  pub is : step_report w ≡ report 0 after bus
  pub count : of bus ≡ n

abbrev pub Makes : World → ℕ → Type 0
Makes w n = Reaches (λ b. b.cycles) w n

abbrev pub Loses : World → ℕ → Type 0
Loses w n = Reaches (λ b. b.dropped) w n
