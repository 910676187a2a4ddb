-- The numbers of a step's record: a port and a value in their widths, and a gap from 1 up to the ceiling.
use Prim.Native.Nat.{ℕ, ◌+◌, ◌≤◌}
use mathlib.Core.Path.{◌≡◌}
use mathlib.Core.Bool.{Bool, true, ◌&&◌}
use mathlib.Core.List.{List, [], ◌∷◌}
use native.Mathlib.Omega.{arith}
use lib.Dec.{eqb}
use Rattle.sheet.specs.declared.Instr.{Instr}
use Rattle.sheet.specs.declared.Instr.TheVariants.{Computes, Moves, Multiplies, Interrupts, Blocks, Ports, Controls, Modes, Cards}
use Rattle.sheet.specs.declared.cards.Card.{Card}
use Rattle.sheet.specs.declared.cards.Card.TheVariants as cards
use Rattle.sheet.specs.declared.Primitive.{Primitive}
use Rattle.sheet.specs.declared.Primitive.TheVariants.{Movbk, Cmpbk, Cmpm, Ldm, Stm, Inm, Outm}
use Rattle.sheet.specs.declared.Port.TheVariants.{InDw, Numbered}
use Rattle.sheet.specs.declared.Io.{Io}
use Rattle.sheet.specs.declared.Io.TheVariants.{In, Out}
use Rattle.sheet.specs.Registers.{AW, CW, DW}
use Rattle.sheet.specs.Log.{rule}
use Rattle.sheet.specs.World.{World}
use Rattle.sheet.specs.Lendable.{lendable}
use Rattle.sheet.specs.Handler.{Event, done, kept}
use Rattle.sheet.specs.Step.{step}
use Rattle.sheet.proofs.StepLaws.{begins}
use Rattle.log_record.specs.Whole.{Row, Sound}
use Rattle.log_record.proofs.Growth.{access_sound}
use Rattle.log_record.proofs.Picked.{picked}
use Rattle.theorems.specs.Repeat.{reg, repeats}
use Rattle.theorems.specs.Rows.{Use, none, access, rows_of_use, rows_of}
use Rattle.theorems.specs.Access.{taken_by, of_io, of_primitive, of_card, access_of}
use Rattle.theorems.proofs.Widths.{Holds, holds_lent, top_of, file_words, register_top, memory_top, taped_top}
use Rattle.theorems.proofs.BoundsReading.{Fine}
use Rattle.theorems.proofs.BoundsStep.{reads_fine}
use Rattle.theorems.proofs.PortOnce.{fine_read, step_rows}

pub data AtMostOne : List Row → Type 0 where
  no_row : AtMostOne []
  one_row : {r : Row} → Sound rule r → AtMostOne (r ∷ [])

data InWidth : Use → Type 0 where
  no_access : InWidth none
  in_width : {out b : Bool} {port v : ℕ} → port ≤ 65535 → v ≤ top_of b → InWidth (access out b port v)

byte_word : (n : ℕ) → n ≤ 255 → n ≤ 65535
byte_word n h = omega arith

module _ (w : World) (h : Holds w) where
  register_word : (n : ℕ) → reg w n ≤ 65535
  register_word = file_words w.state.file h.words

  tape_width : (b : Bool) (port : ℕ) → port ≤ 65535 → InWidth (taken_by w b port)
  tape_width b port l = in_width l (taped_top b w.tape w.state.progress.tape h.tape)

  io_width : (i : Io) → Fine (Ports i) → InWidth (of_io w i)
  io_width (In b InDw) f = tape_width b (reg w DW) (register_word DW)
  io_width (In b (Numbered n)) f = tape_width b n (byte_word n f)
  io_width (Out b InDw) f = in_width (register_word DW) (register_top b (reg w) AW register_word)
  io_width (Out b (Numbered n)) f = in_width (byte_word n f) (register_top b (reg w) AW register_word)

  primitive_width : (k : Primitive) (b : Bool) (seg : ℕ) → InWidth (of_primitive w k b seg)
  primitive_width Movbk b seg = no_access
  primitive_width Cmpbk b seg = no_access
  primitive_width Cmpm b seg = no_access
  primitive_width Ldm b seg = no_access
  primitive_width Stm b seg = no_access
  primitive_width Inm b seg = tape_width b (reg w DW) (register_word DW)
  primitive_width Outm b seg = in_width (register_word DW) (memory_top b w.ram w.rom _ _ h.ram h.rom)

  card_width : (i : Card) → Fine (Cards i) → InWidth (of_card w i)
  card_width (cards.Transfers i) f = no_access
  card_width (cards.Ports i) f = io_width i f
  card_width (cards.Controls i) f = no_access
  card_width (cards.Points i) f = no_access
  card_width (cards.Calculates i) f = no_access
  card_width (cards.Branches i) f = no_access
  card_width (cards.Stacks i) f = no_access
  card_width (cards.Modes i) f = no_access

  access_width : (i : Instr) → Fine i → InWidth (access_of w i)
  access_width (Computes i) f = no_access
  access_width (Moves i) f = no_access
  access_width (Multiplies i) f = no_access
  access_width (Interrupts i) f = no_access
  access_width (Blocks k b seg q) f = picked InWidth (repeats q && eqb (reg w CW) 0) no_access (primitive_width k b seg)
  access_width (Ports i) f = io_width i f
  access_width (Controls i) f = no_access
  access_width (Modes i) f = no_access
  access_width (Cards i) f = card_width i f

one_sound : (n : ℕ) (due : Use) → InWidth due → AtMostOne (rows_of_use (n + 1) due)
one_sound n none no_access = no_row
one_sound n (access out b port v) (in_width h g) = one_row (access_sound rule n port v out b h g)

-- AT MOST ONE RECORD A STEP, of a gap from 1 up to the ceiling, and a key and a value in their widths
pub step_row : (w v : World) (t : List Event) → lendable w ≡ true → step w ≡ done tt v t → (n : ℕ) → AtMostOne (rows_of (n + 1) t)
unfolding step
step_row w v t l e n =
    let a = begins kept w v t e in
    let b = holds_lent w l in
    let f = fine_read (rw a.read at (reads_fine w b.ram b.rom)) in
    rw (step_rows w v t b a (n + 1)) (one_sound n (access_of w a.instr) (access_width w b a.instr f))
