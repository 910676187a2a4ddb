-- Engines, by what they report, and what it means that they keep the promises of step and of run.
use Rattle.std.specs.Prelude.{ℕ, ◌≤◌, Bool, true, false, List, [], ◌∷◌, ◌≡◌}
use Rattle.sheet.specs.declared.Bus.{Bus}
use Rattle.sheet.specs.declared.Entry.{Entry}
use Rattle.sheet.specs.World.{World, world, marks_of}
use Rattle.sheet.specs.Contract.{Report, report}
use Rattle.sheet.specs.declared.GapRule.{GapRule}
use Rattle.sheet.specs.Log.{read_log}
use Rattle.sheet.specs.Lendable.{every, lendable, vector_top, budget_top}
use Rattle.sheet.specs.Step.{step_report, interrupt_report}
use Rattle.sheet.specs.Run.{runs, RunReport, run_reported, ran_report}

-- an engine does what step promises, what an interrupt call promises, what run promises
abbrev pub MeetsStep : (World → Report) → Type 0
MeetsStep engine = (w : World) → lendable w ≡ true → step_report w ≡ engine w

abbrev pub MeetsInterrupt : (ℕ → Bool → World → Report) → Type 0
MeetsInterrupt engine =
    (vector : ℕ) (maskable : Bool) (w : World) → vector ≤ vector_top → lendable w ≡ true → interrupt_report vector maskable w ≡ engine vector maskable w

abbrev pub MeetsRun : (ℕ → World → RunReport) → Type 0
MeetsRun engine = (budget : ℕ) (w : World) → budget ≤ budget_top → lendable w ≡ true → ran_report (runs budget w) ≡ engine budget w

-- a log reader does what reading promises
abbrev pub MeetsReader : (GapRule → List ℕ → ℕ → Entry) → Type 0
MeetsReader reader = (g : GapRule) (log : List ℕ) (at : ℕ) → every 255 log ≡ true → read_log g log at ≡ reader g log at

-- ---- the parts of a report

abbrev pub number_of : Report → ℕ
number_of (report n w b) = n

abbrev pub world_of : Report → World
world_of (report n w b) = w

abbrev pub bus_of : Report → Bus
bus_of (report n w b) = b

abbrev pub answer_of : RunReport → ℕ
answer_of (run_reported n w k b) = n

abbrev pub left_by : RunReport → World
left_by (run_reported n w k b) = w

abbrev pub steps_of : RunReport → ℕ
steps_of (run_reported n w k b) = k

abbrev pub cycles_of : RunReport → ℕ
cycles_of (run_reported n w k b) = b.cycles

-- ---- three machines: SUB4S, ADJ4A (document 01's second and first example), and one that is halted

abbrev pub machine : List ℕ → Bool → ℕ → List ℕ → World
machine file halted count ram = world (record { file = file; marks = marks_of halted false false; progress = record { tape = 0; log = 0; count = count } }) ram [] [] []

abbrev pub subtracting : World
subtracting =
    machine (0 ∷ 2 ∷ 0 ∷ 0 ∷ 0 ∷ 0 ∷ 2 ∷ 3 ∷ 0 ∷ 0 ∷ 0 ∷ 0 ∷ 0 ∷ 0xf042 ∷ []) false 0 (0x0f ∷ 0x22 ∷ 0x28 ∷ 0x06 ∷ [])

abbrev pub subtracted : World
subtracted =
    machine (0 ∷ 2 ∷ 0 ∷ 0 ∷ 0 ∷ 0 ∷ 2 ∷ 3 ∷ 0 ∷ 0 ∷ 0 ∷ 0 ∷ 2 ∷ 0xf003 ∷ []) false 1 (0x0f ∷ 0x22 ∷ 0x28 ∷ 0x78 ∷ [])

abbrev pub adjusting : World
adjusting = machine (0xfb ∷ 0 ∷ 0 ∷ 0 ∷ 0 ∷ 0 ∷ 0 ∷ 0 ∷ 0 ∷ 0 ∷ 0 ∷ 0 ∷ 0 ∷ 0xf002 ∷ []) false 0 (0x27 ∷ [])

abbrev pub adjusted : World
adjusted = machine (0x61 ∷ 0 ∷ 0 ∷ 0 ∷ 0 ∷ 0 ∷ 0 ∷ 0 ∷ 0 ∷ 0 ∷ 0 ∷ 0 ∷ 1 ∷ 0xf013 ∷ []) false 1 (0x27 ∷ [])

abbrev pub asleep : World
asleep = machine (0 ∷ 0 ∷ 0 ∷ 0 ∷ 0 ∷ 0 ∷ 0 ∷ 0 ∷ 0 ∷ 0 ∷ 0 ∷ 0 ∷ 0 ∷ 0xf002 ∷ []) true 0 (0x90 ∷ [])

-- ---- one that takes an interrupt with IE 1, and is masked with IE 0: vector 0 is 1234:5678, the stack ends at 10

abbrev pub called : (sp ps pc psw : ℕ) → List ℕ → World
called sp ps pc psw stack =
    machine (0 ∷ 0 ∷ 0 ∷ 0 ∷ sp ∷ 0 ∷ 0 ∷ 0 ∷ 0 ∷ ps ∷ 0 ∷ 0 ∷ pc ∷ psw ∷ []) false 0 (0x78 ∷ 0x56 ∷ 0x34 ∷ 0x12 ∷ stack)

abbrev pub callable : World
callable = called 10 0 0 0xf202 (0 ∷ 0 ∷ 0 ∷ 0 ∷ 0 ∷ 0 ∷ [])

abbrev pub entered : World
entered = called 4 0x1234 0x5678 0xf002 (0 ∷ 0 ∷ 0 ∷ 0 ∷ 0x02 ∷ 0xf2 ∷ [])

abbrev pub masked : World
masked = called 10 0 0 0xf002 (0 ∷ 0 ∷ 0 ∷ 0 ∷ 0 ∷ 0 ∷ [])

-- document 01's log
abbrev pub sample_log : List ℕ
sample_log = 0x05 ∷ 0x81 ∷ 0x03 ∷ 0x41 ∷ 0xac ∷ 0x02 ∷ 0x42 ∷ 0xb4 ∷ 0x24 ∷ []
