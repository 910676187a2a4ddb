-- CALL, RET, BR, the conditional branches and the loops. PC stands on the next instruction when these begin.
-- 001:1564-1570, 1591-1596, 1602-1626; 000:1240-1248, 1277-1306
use Rattle.std.specs.Prelude.{ℕ, ◌%◌, ◌/◌, Bool, true, false, not, ◌&&◌, ◌||◌, List, [], ◌∷◌, eqb, get_or}
use Rattle.std.specs.Bool.{beq}
use Rattle.sheet.specs.declared.Address.{Address}
use Rattle.sheet.specs.declared.Place.{Place}
use Rattle.sheet.specs.declared.Place.TheVariants.{Register, Memory}
use Rattle.sheet.specs.declared.Branch.{Branch}
use Rattle.sheet.specs.declared.Branch.TheVariants.{CallNear, CallTo, CallFar, CallFarAt, Ret, RetPop, RetFar, RetFarPop, BrNear, BrShort, BrTo, BrFar, BrFarAt}
use Rattle.sheet.specs.declared.Conditional.{Conditional}
use Rattle.sheet.specs.declared.Conditional.TheVariants.{If, Dbnzne, Dbnze, Dbnz, Bcwz}
use Rattle.sheet.specs.Width.{pick, odd, add16, sub16}
use Rattle.sheet.specs.Psw.{Flag, CY, P, Z, S, OV}
use Rattle.sheet.specs.Registers.{CW, SP, PC}
use Rattle.sheet.specs.Act.{Act, pure, ◌>>=◌, ◌>>◌, registers, ◌≔◌, flag, peek}
use Rattle.sheet.specs.Operand.{base_of, offset_of, reg_value, value_at, pair_at}
use Rattle.sheet.specs.Traps.{push, pop, pop_into, push_ps_pc, jump_far}

-- PC <- PC + disp
unfoldable pub jump : ℕ → Act Unit
jump disp = do
  r ← registers
  PC ≔ add16 (r PC) disp

-- ---- CALL

unfoldable pub push_pc : Act Unit
push_pc = do
  r ← registers
  push (r PC)

unfoldable pub call_near : ℕ → Act Unit
call_near disp = do
  push_pc
  jump disp

-- CALL regptr16 reads its register after the push, CALL memptr16 its memory before
unfoldable pub call_to : Place → Act Unit
call_to (Register n) = do
  push_pc
  v ← reg_value true n
  PC ≔ v
call_to (Memory a) = do
  v ← value_at true (Memory a)
  push_pc
  PC ≔ v

unfoldable pub call_far : ℕ → ℕ → Act Unit
call_far ps pc = do
  push_ps_pc
  jump_far ps pc

unfoldable pub call_far_at : Address → Act Unit
call_far_at at = do
  p ← pair_at at
  call_far p.1 p.0

-- ---- RET

-- SP <- SP + pop-value
unfoldable pub release : ℕ → Act Unit
release size = do
  r ← registers
  SP ≔ add16 (r SP) size

unfoldable pub ret : Act Unit
ret = pop_into PC

unfoldable pub ret_pop : ℕ → Act Unit
ret_pop size = do
  ret
  release size

unfoldable pub ret_far : Act Unit
ret_far = do
  pc ← pop
  ps ← pop
  jump_far ps pc

unfoldable pub ret_far_pop : ℕ → Act Unit
ret_far_pop size = do
  ret_far
  release size

-- ---- BR

unfoldable pub br_to : Place → Act Unit
br_to to = do
  v ← value_at true to
  PC ≔ v

-- PS's word is read first
unfoldable pub br_far_at : Address → Act Unit
br_far_at at = do
  r ← registers
  ps ← peek true (base_of r at) (add16 (offset_of r at) 2)
  pc ← peek true (base_of r at) (offset_of r at)
  jump_far ps pc

unfoldable pub branch : Branch → Act Unit
branch (CallNear disp) = call_near disp
branch (CallTo to) = call_to to
branch (CallFar ps pc) = call_far ps pc
branch (CallFarAt at) = call_far_at at
branch Ret = ret
branch (RetPop size) = ret_pop size
branch RetFar = ret_far
branch (RetFarPop size) = ret_far_pop size
branch (BrNear disp) = jump disp
branch (BrShort disp) = jump disp
branch (BrTo to) = br_to to
branch (BrFar ps pc) = jump_far ps pc
branch (BrFarAt at) = br_far_at at

-- ---- conditions

abbrev pub either : Flag → Flag → Act Bool
either f g = do
  a ← flag f
  b ← flag g
  pure (a || b)

abbrev pub unlike : Flag → Flag → Act Bool
unlike f g = do
  a ← flag f
  b ← flag g
  pure (not (beq a b))

unfoldable pub less_or_equal : Act Bool
less_or_equal = do
  a ← unlike S OV
  b ← flag Z
  pure (a || b)

-- BV, BC, BE, BNH, BN, BPE, BLT, BLE
abbrev pub conditions : List (Act Bool)
conditions = flag OV ∷ flag CY ∷ flag Z ∷ either CY Z ∷ flag S ∷ flag P ∷ unlike S OV ∷ less_or_equal ∷ []

-- what 70 to 7F ask by their low four bits, two codes alike
unfoldable pub asked : ℕ → Act Bool
asked n = get_or conditions (n / 2 % 8) (pure false)

-- the odd ones are the even ones denied
unfoldable pub condition : ℕ → Act Bool
condition n = do
  b ← asked n
  pure (not (beq b (odd n)))

unfoldable pub jump_if : Bool → ℕ → Act Unit
jump_if b disp = pick b (jump disp) (pure tt)

unfoldable pub branch_if : ℕ → ℕ → Act Unit
branch_if n disp = do
  b ← condition n
  jump_if b disp

-- CW <- CW - 1; hands on whether it is not 0
unfoldable pub count_down : Act Bool
count_down = do
  r ← registers
  CW ≔ sub16 (r CW) 1
  pure (not (eqb (sub16 (r CW) 1) 0))

unfoldable pub dbnz_while : Bool → ℕ → Act Unit
dbnz_while wanted disp = do
  b ← count_down
  z ← flag Z
  jump_if (b && beq z wanted) disp

unfoldable pub dbnz : ℕ → Act Unit
dbnz disp = do
  b ← count_down
  jump_if b disp

unfoldable pub bcwz : ℕ → Act Unit
bcwz disp = do
  r ← registers
  jump_if (eqb (r CW) 0) disp

unfoldable pub conditional : Conditional → Act Unit
conditional (If n disp) = branch_if n disp
conditional (Dbnzne disp) = dbnz_while false disp
conditional (Dbnze disp) = dbnz_while true disp
conditional (Dbnz disp) = dbnz disp
conditional (Bcwz disp) = bcwz disp
