-- PUSH, POP but for POP PSW (Mode), PREPARE, DISPOSE.
-- 001:710-853, 1577-1590; 000:1253-1267; 01:61-62
use Rattle.std.specs.Prelude.{ℕ, zero, suc, Bool, true, false}
use Rattle.sheet.specs.declared.Place.{Place}
use Rattle.sheet.specs.declared.Place.TheVariants.{Register, Memory}
use Rattle.sheet.specs.declared.Stack.{Stack}
use Rattle.sheet.specs.declared.Stack.TheVariants.{Push, PushByte, PushWord, PushSegment, PushPsw, PushR, Pop, PopSegment, PopR, Prepare, Dispose}
use Rattle.sheet.specs.Width.{sub16}
use Rattle.sheet.specs.Registers.{AW, CW, DW, BW, SP, BP, IX, IY, SS, segment, read_reg}
use Rattle.sheet.specs.Act.{Act, pure, ◌>>=◌, ◌>>◌, registers, ◌≔◌, peek, poke, loop}
use Rattle.sheet.specs.Operand.{locate, deposit, value_at}
use Rattle.sheet.specs.Traps.{push, pop, pop_into, push_psw}

-- of SP the lowered value is stored: SP falls before the register is read
unfoldable pub push_register : ℕ → Act Unit
push_register n = do
  r ← registers
  SP ≔ sub16 (r SP) 2
  q ← registers
  poke true (q SS) (q SP) (read_reg true q n)

unfoldable pub push_place : Place → Act Unit
push_place (Register n) = push_register n
push_place (Memory a) = do
  v ← value_at true (Memory a)
  push v

unfoldable pub push_segment : ℕ → Act Unit
push_segment seg = do
  r ← registers
  push (r (segment seg))

-- PUSH R: of SP the value from before
unfoldable pub push_r : Act Unit
push_r = do
  r ← registers
  push (r AW)
  push (r CW)
  push (r DW)
  push (r BW)
  push (r SP)
  push (r BP)
  push (r IX)
  push (r IY)

unfoldable pub pop_place : Place → Act Unit
pop_place to = do
  v ← pop
  s ← locate to
  deposit true s v

unfoldable pub pop_segment : ℕ → Act Unit
pop_segment seg = pop_into (segment seg)

-- POP R: the word that stands for SP is read and dropped
unfoldable pub pop_r : Act Unit
pop_r = do
  pop_into IY
  pop_into IX
  pop_into BP
  pop
  pop_into BW
  pop_into DW
  pop_into CW
  pop_into AW

-- a frame pointer of the caller's frame is copied
unfoldable pub frame : ℕ → Unit {0} → Act Unit
frame i u = do
  r ← registers
  BP ≔ sub16 (r BP) 2
  v ← peek true (r SS) (sub16 (r BP) 2)
  push v

unfoldable pub frames : ℕ → ℕ → Act Unit
frames zero temp = pure tt
frames (suc n) temp = do
  loop frame n 0 tt
  push temp

-- section 4.3
unfoldable pub prepare : ℕ → ℕ → Act Unit
prepare size level = do
  r ← registers
  push (r BP)
  frames level (sub16 (r SP) 2)
  BP ≔ sub16 (r SP) 2
  q ← registers
  SP ≔ sub16 (q SP) size

unfoldable pub dispose : Act Unit
dispose = do
  r ← registers
  SP ≔ r BP
  pop_into BP

unfoldable pub stack : Stack → Act Unit
stack (Push from) = push_place from
stack (PushByte v) = push v
stack (PushWord v) = push v
stack (PushSegment seg) = push_segment seg
stack PushPsw = push_psw
stack PushR = push_r
stack (Pop to) = pop_place to
stack (PopSegment seg) = pop_segment seg
stack PopR = pop_r
stack (Prepare size level) = prepare size level
stack Dispose = dispose

-- POP into a segment register (02 f)
unfoldable pub pop_in : Stack → Bool
pop_in (Push from) = false
pop_in (PushByte v) = false
pop_in (PushWord v) = false
pop_in (PushSegment seg) = false
pop_in PushPsw = false
pop_in PushR = false
pop_in (Pop to) = false
pop_in (PopSegment seg) = true
pop_in PopR = false
pop_in (Prepare size level) = false
pop_in Dispose = false
