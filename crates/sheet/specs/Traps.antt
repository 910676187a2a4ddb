-- Words on the stack, far jumps, and traps: what BRK, a division, CHKIND, the single step and an interrupt call do alike.
-- 001:966-1026; 01:27; 02 m
use Rattle.std.specs.Prelude.{ℕ, ◌+◌, ◌*◌, Bool, true, false}
use Rattle.sheet.specs.Width.{add16, sub16}
use Rattle.sheet.specs.Psw.{to_native}
use Rattle.sheet.specs.Registers.{SP, SS, PS, PC}
use Rattle.sheet.specs.Act.{Act, pure, ◌>>=◌, ◌>>◌, registers, ◌≔◌, psw, clear_ie_brk, crossing, peek, poke}

-- SP <- SP - 2, (SP + 1, SP) <- v
unfoldable pub push : ℕ → Act Unit
push v = do
  r ← registers
  SP ≔ sub16 (r SP) 2
  poke true (r SS) (sub16 (r SP) 2) v

-- (SP + 1, SP) is handed on, SP <- SP + 2
unfoldable pub pop : Act ℕ
pop = do
  r ← registers
  v ← peek true (r SS) (r SP)
  SP ≔ add16 (r SP) 2
  pure v

-- register n takes the word that is popped
unfoldable pub pop_into : ℕ → Act Unit
pop_into n = do
  v ← pop
  n ≔ v

unfoldable pub push_psw : Act Unit
push_psw = do
  x ← psw true
  push x

unfoldable pub push_ps_pc : Act Unit
push_ps_pc = do
  r ← registers
  push (r PS)
  push (r PC)

unfoldable pub jump_far : ℕ → ℕ → Act Unit
jump_far ps pc = do
  PS ≔ ps
  PC ≔ pc

-- PSW, PS and the PC then due go onto the stack; PSW changes once it is there
unfoldable pub save : Act Unit → Act Unit
save change = do
  push_psw
  change
  push_ps_pc

-- the words of a vector are read first
unfoldable pub vectored : Act Unit → ℕ → Act Unit
vectored change v = do
  pc ← peek true 0 (4 * v)
  ps ← peek true 0 (4 * v + 2)
  save change
  jump_far ps pc

-- IE and BRK become 0, and native mode is entered
unfoldable pub entered : Act Unit
entered = do
  clear_ie_brk
  crossing to_native

unfoldable pub trap : ℕ → Act Unit
trap v = vectored entered v

-- an instruction that takes no trap hands on that it took none
unfoldable pub untrapped : Act Unit → Act Bool
untrapped p = do
  p
  pure false
