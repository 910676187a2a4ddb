-- One step, an interrupt call, and reset; what a step and an interrupt report. Calls are given worlds that are `lendable`, and
-- vectors up to `vector_top` (Lendable). Stated elsewhere: at most nine bytes make an instruction (01:23: `nine_bytes` in rom_form/proofs),
-- a step makes at most 1,028 bus cycles (01:66: `at_most_1028` in theorems/proofs), what a service is (01:29: `Service` in theorems/specs/Repeat).
-- 01:15, 23-29, 35-48; 02 b, c, f, m
use Rattle.std.specs.Prelude.{ℕ, ◌+◌, Bool, true, false, not, ◌&&◌, ◌||◌, List, [], length, replicate, set, leb}
use Rattle.sheet.specs.declared.State.{State}
use Rattle.sheet.specs.declared.Marks.{Marks}
use Rattle.sheet.specs.declared.Move.{Move}
use Rattle.sheet.specs.declared.Move.TheVariants.{Transfers, Stacks, Branches, Tests}
use Rattle.sheet.specs.declared.Instr.{Instr}
use Rattle.sheet.specs.declared.Instr.TheVariants.{Computes, Moves, Multiplies, Interrupts, Blocks, Ports, Controls, Modes, Cards}
use Rattle.sheet.specs.Width.{pick, add16}
use Rattle.sheet.specs.Psw.{BRK, IE, Choice, flag_of, native_of, fixed_of}
use Rattle.sheet.specs.Registers.{PS, PC, PSW, file_of}
use Rattle.sheet.specs.Memory.{physical, byte_at}
use Rattle.sheet.specs.Log.{ceiling, rule, risen}
use Rattle.sheet.specs.World.{World, with_state, state_of, progress_of, psw_of, with_count, with_marks, marks_of, mark_loaded}
use Rattle.sheet.specs.Act.{Act, pure, ◌>>=◌, ◌>>◌, flag, halted}
use Rattle.sheet.specs.Handler.{Outcome, refused, run_by, kept}
use Rattle.sheet.specs.Contract.{seen, Report, report_of}
use Rattle.sheet.specs.Reading.{Read, known, unknown, scan}
use Rattle.sheet.specs.FirstByte.{instruction}
use Rattle.sheet.specs.CardCodes.{card_instruction}
use Rattle.sheet.specs.Traps.{trap}
use Rattle.sheet.specs.Transfer.{mov_in}
use Rattle.sheet.specs.Stack.{pop_in}
use Rattle.sheet.specs.Execute.{execute}

-- ---- what is checked first

-- number 1 is given where this fails
unfoldable pub fits : World → Bool
fits w = leb (length w.ram + length w.rom) 1048576

-- places and count
abbrev pub places_good : State → List ℕ → List ℕ → Bool
places_good s tape log = leb s.progress.tape (length tape) && (leb s.progress.log (length log) && leb s.progress.count (ceiling rule))

-- never both: HALT is then itself the last finished step
abbrev pub marks_good : Marks → Bool
marks_good m = not (m.halted && m.loaded)

-- the fixed bits of PSW, and MD: 0 needs the permission
abbrev pub psw_good : State → Bool
psw_good s = fixed_of (psw_of s) && (native_of (psw_of s) || s.marks.writable)

-- number 2 is given where this fails: PSW, places, count, marks
unfoldable pub sound : World → Bool
sound w = psw_good w.state && (places_good w.state w.tape w.log && marks_good w.state.marks)

-- the first of two refusals that is due, or what comes then
abbrev pub checked : {A : Type 0} → World → (ℕ → A) → A → A
checked w refuses go = pick (fits w) (pick (sound w) go (refuses 2)) (refuses 1)

abbrev pub refusal : {A : Type 0} → ℕ → Outcome A
refusal n = refused n []

-- ---- a step

-- the address of the jth byte of the instruction at PS:PC, and that byte
abbrev pub code_at : ℕ → ℕ → ℕ → ℕ
code_at ps pc j = physical ps (add16 pc j)

abbrev pub code_byte : List ℕ → List ℕ → ℕ → ℕ → ℕ → ℕ
code_byte ram rom ps pc j = byte_at ram rom (code_at ps pc j)

abbrev pub source : World → ℕ → ℕ
source w = code_byte w.ram w.rom (file_of w.state.file PS) (file_of w.state.file PC)

-- what the bytes at PS:PC say in the mode in force: whoever asks which instruction comes next asks here
unfoldable pub instruction_in : World → Read Instr
instruction_in w = scan (pick (native_of (psw_of w.state)) instruction card_instruction) (source w) 0

-- what a trap from outside the instruction does: it ends a halt
unfoldable pub interrupting : ℕ → Act Unit
interrupting v = do
  trap v
  halted false

unfoldable pub moves_in : Move → Bool
moves_in (Transfers i) = mov_in i
moves_in (Stacks i) = pop_in i
moves_in (Branches i) = false
moves_in (Tests i) = false

-- MOV by 8E and POP into a segment register: after these the next instruction runs before any interrupt
unfoldable pub loads_segment : Instr → Bool
loads_segment (Computes i) = false
loads_segment (Moves i) = moves_in i
loads_segment (Multiplies i) = false
loads_segment (Interrupts i) = false
loads_segment (Blocks k w seg q) = false
loads_segment (Ports i) = false
loads_segment (Controls i) = false
loads_segment (Modes i) = false
loads_segment (Cards i) = false

-- the trap to vector 1 if BRK was 1 before and no other trap was taken
unfoldable pub single_step : Bool → Act Unit
single_step false = pure tt
single_step true = interrupting 1

-- it does not follow a segment load
unfoldable pub stepping : Instr → ℕ → Act Unit
stepping i n = do
  traced ← flag BRK
  trapped ← execute i n
  single_step ((traced && not (loads_segment i)) && not trapped)

-- the count rises with the step, so that a record finds its gap there; the mark says whether the step loads a segment register
unfoldable pub starting : Instr → World → World
starting i w = with_state w (with_marks (with_count w.state (risen rule w.state.progress.count)) (mark_loaded w.state.marks (loads_segment i)))

unfoldable pub decoded : (ℕ → Choice) → Read Instr → World → Outcome Unit
decoded u (known i n) w = run_by u (stepping i n) (starting i w)
decoded u (unknown r n) w = refusal r

unfoldable pub awake : (ℕ → Choice) → World → Outcome Unit
awake u w = pick w.state.marks.halted (refusal 8) (decoded u (instruction_in w) w)

unfoldable pub step_by : (ℕ → Choice) → World → Outcome Unit
step_by u w = checked w refusal (awake u w)

-- the machine of document 01
unfoldable pub step : World → Outcome Unit
step w = step_by kept w

-- ---- an interrupt call

unfoldable pub interrupt_by : (ℕ → Choice) → ℕ → Bool → World → Outcome Unit
interrupt_by u v maskable w =
    checked w refusal (pick w.state.marks.loaded (refusal 13) (pick (maskable && not (flag_of (psw_of w.state) IE)) (refusal 7) (run_by u (interrupting v) w)))

unfoldable pub interrupt : ℕ → Bool → World → Outcome Unit
interrupt v maskable w = interrupt_by kept v maskable w

-- ---- reset: native mode, no permission

unfoldable pub reset : State
reset = state_of (set (set (replicate 14 0) PS 0xffff) PSW 0xf002) (marks_of false false false) (progress_of 0 0 0)

-- ---- what a call reports

unfoldable pub step_report : World → Report
step_report w = report_of w (seen (step w))

unfoldable pub interrupt_report : ℕ → Bool → World → Report
interrupt_report v maskable w = report_of w (seen (interrupt v maskable w))
