-- Document 01's table of refusals, with 02 f's 13 and its case of 2, 02 m's case of 2, and 02 c's ceiling and rule, row by row: what a step, an interrupt call and a reading of a log come to, each with its condition.
use Rattle.std.specs.Prelude.{ℕ, ◌+◌, ◌≤◌, ◌<◌, ◌≡◌, Bool, true, false, not, ◌&&◌, ◌||◌, List, length, drop, Some}
use Rattle.sheet.specs.declared.Instr.{Instr}
use Rattle.sheet.specs.declared.GapRule.{GapRule}
use Rattle.sheet.specs.declared.Found.TheVariants as found
use Rattle.sheet.specs.declared.Entry.{Entry}
use Rattle.sheet.specs.declared.Entry.TheVariants as entry
use Rattle.sheet.specs.Psw.{IE, flag_of, native_of, fixed_of}
use Rattle.sheet.specs.Log.{rule, risen, record_at}
use Rattle.sheet.specs.World.{World, psw_of}
use Rattle.sheet.specs.Handler.{Event, done, run, tally}
use Rattle.sheet.specs.Contract.{Seen, stops, ends}
use Rattle.sheet.specs.Reading.{known, unknown}
use Rattle.sheet.specs.Encoding.{Prefix, prefix_of}
use Rattle.sheet.specs.Step.{source, starting, stepping, interrupting, instruction_in}
use Rattle.theorems.specs.Access.{access_of, tape_need, log_need}

-- ---- what every call checks first

abbrev pub space : ℕ
space = 1048576

-- what number 2 is given for
pub data Unsound (w : World) : Type 0 where
  fixed_bit : fixed_of (psw_of w.state) ≡ false → Unsound w
  -- MD is 0 without the permission to write it
  mode_unwritable : native_of (psw_of w.state) ≡ false → w.state.marks.writable ≡ false → Unsound w
  tape_place : length w.tape < w.state.progress.tape → Unsound w
  log_place : length w.log < w.state.progress.log → Unsound w
  count_over : 4294967295 < w.state.progress.count → Unsound w
  marked_and_halted : (w.state.marks.halted && w.state.marks.loaded) ≡ true → Unsound w

-- what passes both
pub record Passes (w : World) : Type 0 where
  pub fit : length w.ram + length w.rom ≤ space
  pub fixed : fixed_of (psw_of w.state) ≡ true
  pub mode_in : (native_of (psw_of w.state) || w.state.marks.writable) ≡ true
  pub tape_in : w.state.progress.tape ≤ length w.tape
  pub log_in : w.state.progress.log ≤ length w.log
  pub count_in : w.state.progress.count ≤ 4294967295
  pub marks_in : (w.state.marks.halted && w.state.marks.loaded) ≡ false

-- ---- a step

abbrev pub IsPrefix : ℕ → Type 0
IsPrefix b = (x : Prefix) × (prefix_of b ≡ Some x)

pub data StepOf (w : World) : Seen Unit → Type 0 where
  -- 1: RAM and ROM together exceed 1,048,576 bytes
  too_large : space < length w.ram + length w.rom → StepOf w (stops 1)
  -- 2: a fixed PSW bit is wrong, MD is 0 without the permission, a place lies beyond its buffer, the count exceeds 4,294,967,295, or it is both marked and halted
  unsound : length w.ram + length w.rom ≤ space → Unsound w → StepOf w (stops 2)
  -- 8: a step of a halted machine
  asleep : Passes w → w.state.marks.halted ≡ true → StepOf w (stops 8)
  -- 4: a fourth prefix byte is met, in native mode: the 8080 mode has no prefixes
  fourth_prefix : Passes w → w.state.marks.halted ≡ false → native_of (psw_of w.state) ≡ true → ((j : ℕ) → j < 4 → IsPrefix (source w j)) → StepOf w (stops 4)
  -- 3: the bytes name no instruction that is in
  no_instruction : {n : ℕ} → Passes w → w.state.marks.halted ≡ false → instruction_in w ≡ unknown 3 n → StepOf w (stops 3)
  -- 5: fewer tape bytes remain than a port read needs
  short_tape : {i : Instr} {n : ℕ} → Passes w → w.state.marks.halted ≡ false → instruction_in w ≡ known i n
      → length w.tape < w.state.progress.tape + tape_need (access_of w i) → StepOf w (stops 5)
  -- 6: the log has less room than this record needs
  full_log : {i : Instr} {n : ℕ} → Passes w → w.state.marks.halted ≡ false → instruction_in w ≡ known i n
      → w.state.progress.tape + tape_need (access_of w i) ≤ length w.tape
      → length w.log < w.state.progress.log + log_need (risen rule w.state.progress.count) (access_of w i) → StepOf w (stops 6)
  -- 0: done
  finished : {i : Instr} {n : ℕ} {v : World} {t : List Event} → Passes w → w.state.marks.halted ≡ false → instruction_in w ≡ known i n
      → w.state.progress.tape + tape_need (access_of w i) ≤ length w.tape
      → w.state.progress.log + log_need (risen rule w.state.progress.count) (access_of w i) ≤ length w.log
      → run (stepping i n) (starting i w) ≡ done tt v t → StepOf w (ends tt v (tally t))

-- ---- an interrupt call

pub data InterruptOf (vector : ℕ) (maskable : Bool) (w : World) : Seen Unit → Type 0 where
  call_too_large : space < length w.ram + length w.rom → InterruptOf vector maskable w (stops 1)
  call_unsound : length w.ram + length w.rom ≤ space → Unsound w → InterruptOf vector maskable w (stops 2)
  -- 13: the last finished step loaded a segment register, masked or not
  held : Passes w → w.state.marks.loaded ≡ true → InterruptOf vector maskable w (stops 13)
  -- 7: a maskable interrupt with IE = 0, halted or not
  masked : Passes w → w.state.marks.loaded ≡ false → maskable ≡ true → flag_of (psw_of w.state) IE ≡ false → InterruptOf vector maskable w (stops 7)
  taken : {v : World} {t : List Event} → Passes w → w.state.marks.loaded ≡ false → (maskable && not (flag_of (psw_of w.state) IE)) ≡ false
      → run (interrupting vector) w ≡ done tt v t → InterruptOf vector maskable w (ends tt v (tally t))

-- ---- the reading of a log at a place, under the gap rule that it was written by

pub data ReadOf (g : GapRule) (log : List ℕ) (at : ℕ) : Entry → Type 0 where
  -- 2: the place lies beyond the log
  beyond : length log < at → ReadOf g log at entry.Beyond
  -- 9: the record is malformed; the offset of its first byte is given
  malformed : at ≤ length log → record_at g (drop at log) ≡ found.Faulty → ReadOf g log at (entry.Malformed at)
  -- 0: the log's end is named as such
  at_end : at ≡ length log → ReadOf g log at entry.End
  -- 0: a record, and the place behind it
  met : {gap key value n : ℕ} → at ≤ length log → record_at g (drop at log) ≡ found.Record gap key value n
      → ReadOf g log at (entry.Record gap key value (at + n))
