-- The port access that an instruction makes, and what it needs of tape and log.
use Rattle.std.specs.Prelude.{ℕ, Bool, true, false, ◌&&◌, length, eqb}
use Rattle.sheet.specs.declared.Instr.{Instr}
use Rattle.sheet.specs.declared.Instr.TheVariants.{Computes, Moves, Multiplies, Interrupts, Blocks, Ports, Controls, Modes, Cards}
use Rattle.sheet.specs.declared.cards.Card.{Card}
use Rattle.sheet.specs.declared.cards.Card.TheVariants as cards
use Rattle.sheet.specs.declared.Primitive.{Primitive}
use Rattle.sheet.specs.declared.Primitive.TheVariants.{Movbk, Cmpbk, Cmpm, Ldm, Stm, Inm, Outm}
use Rattle.sheet.specs.declared.Port.{Port}
use Rattle.sheet.specs.declared.Port.TheVariants.{InDw, Numbered}
use Rattle.sheet.specs.declared.Io.{Io}
use Rattle.sheet.specs.declared.Io.TheVariants.{In, Out}
use Rattle.sheet.specs.Width.{pick, bytes_of}
use Rattle.sheet.specs.Registers.{AW, CW, DW, IX, segment, read_reg}
use Rattle.sheet.specs.Memory.{read_mem}
use Rattle.sheet.specs.Log.{rule, key_of, record_bytes}
use Rattle.sheet.specs.World.{World}
use Rattle.sheet.specs.Handler.{taped}
use Rattle.theorems.specs.Repeat.{reg, repeats}
use Rattle.theorems.specs.Rows.{Use, none, access}

abbrev pub port_of : World → Port → ℕ
port_of w InDw = reg w DW
port_of w (Numbered n) = n

abbrev pub taken_by : World → Bool → ℕ → Use
taken_by w b port = access false b port (taped b w.tape w.state.progress.tape)

abbrev pub of_io : World → Io → Use
of_io w (In b port) = taken_by w b (port_of w port)
of_io w (Out b port) = access true b (port_of w port) (read_reg b (reg w) AW)

abbrev pub of_primitive : World → Primitive → Bool → ℕ → Use
of_primitive w Movbk b seg = none
of_primitive w Cmpbk b seg = none
of_primitive w Cmpm b seg = none
of_primitive w Ldm b seg = none
of_primitive w Stm b seg = none
of_primitive w Inm b seg = taken_by w b (reg w DW)
of_primitive w Outm b seg = access true b (reg w DW) (read_mem b w.ram w.rom (reg w (segment seg)) (reg w IX))

abbrev pub of_card : World → Card → Use
of_card w (cards.Transfers i) = none
of_card w (cards.Ports i) = of_io w i
of_card w (cards.Controls i) = none
of_card w (cards.Points i) = none
of_card w (cards.Calculates i) = none
of_card w (cards.Branches i) = none
of_card w (cards.Stacks i) = none
of_card w (cards.Modes i) = none

-- a repeated primitive with CW = 0 makes none
abbrev pub access_of : World → Instr → Use
access_of w (Computes i) = none
access_of w (Moves i) = none
access_of w (Multiplies i) = none
access_of w (Interrupts i) = none
access_of w (Blocks k b seg q) = pick (repeats q && eqb (reg w CW) 0) none (of_primitive w k b seg)
access_of w (Ports i) = of_io w i
access_of w (Controls i) = none
access_of w (Modes i) = none
access_of w (Cards i) = of_card w i

-- the tape bytes that an access needs, and the bytes of its record with a gap
abbrev pub tape_need : Use → ℕ
tape_need none = 0
tape_need (access false b port v) = bytes_of b
tape_need (access true b port v) = 0

abbrev pub log_need : ℕ → Use → ℕ
log_need gap none = 0
log_need gap (access out b port v) = length (record_bytes rule gap (key_of out b port) v)
