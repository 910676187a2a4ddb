-- The block primitives, single and repeated.
-- 001:1258-1270, 1288-1291; 000:942-952, 970-971; 01:19, 25
use Rattle.std.specs.Prelude.{ℕ, Bool, true, false, not, ◌&&◌, eqb}
use Rattle.sheet.specs.declared.Primitive.{Primitive}
use Rattle.sheet.specs.declared.Primitive.TheVariants.{Movbk, Cmpbk, Cmpm, Ldm, Stm, Inm, Outm}
use Rattle.sheet.specs.declared.Repeat.{Repeat}
use Rattle.sheet.specs.declared.Repeat.TheVariants.{Once, WhileZ, WhileNotZ, WhileCy, WhileNotCy}
use Rattle.sheet.specs.Width.{pick, bytes_of, add16, sub16}
use Rattle.sheet.specs.Psw.{CY, Z, DIR}
use Rattle.sheet.specs.Registers.{AW, CW, DW, IX, IY, DS1, PC, segment}
use Rattle.sheet.specs.Act.{Act, pure, ◌>>=◌, ◌>>◌, registers, ◌≔◌, flag, affect, peek, poke, inp, out}
use Rattle.sheet.specs.Operand.{reg_value, set_reg}
use Rattle.sheet.specs.Arithmetic.{difference}
use Rattle.sheet.specs.Branch.{count_down}

-- an index one element on
unfoldable pub stepped_of : (word down : Bool) → ℕ → ℕ
stepped_of w down x = pick down (sub16 x (bytes_of w)) (add16 x (bytes_of w))

-- an index register goes up when DIR is 0, down when it is 1
unfoldable pub step_index : Bool → ℕ → Act Unit
step_index w n = do
  down ← flag DIR
  r ← registers
  n ≔ stepped_of w down (r n)

-- the element due in the source block, in the target block
unfoldable pub source_element : Bool → ℕ → Act ℕ
source_element w seg = do
  r ← registers
  peek w (r (segment seg)) (r IX)

unfoldable pub target_element : Bool → Act ℕ
target_element w = do
  r ← registers
  peek w (r DS1) (r IY)

unfoldable pub set_target : Bool → ℕ → Act Unit
set_target w v = do
  r ← registers
  poke w (r DS1) (r IY) v

unfoldable pub primitive : Primitive → Bool → ℕ → Act Unit
primitive Movbk w seg = do
  v ← source_element w seg
  set_target w v
  step_index w IX
  step_index w IY
primitive Cmpbk w seg = do
  a ← source_element w seg
  b ← target_element w
  affect (difference w a b false).column
  step_index w IX
  step_index w IY
primitive Cmpm w seg = do
  a ← reg_value w AW
  b ← target_element w
  affect (difference w a b false).column
  step_index w IY
primitive Ldm w seg = do
  v ← source_element w seg
  set_reg w AW v
  step_index w IX
primitive Stm w seg = do
  v ← reg_value w AW
  set_target w v
  step_index w IY
primitive Inm w seg = do
  r ← registers
  v ← inp w (r DW)
  set_target w v
  step_index w IY
primitive Outm w seg = do
  v ← source_element w seg
  r ← registers
  out w (r DW) v
  step_index w IX

-- ---- repeats

-- what a comparison must leave for its repeat to go on
unfoldable pub goes_on : Repeat → Act Bool
goes_on Once = pure false
goes_on WhileZ = flag Z
goes_on WhileNotZ = do
  z ← flag Z
  pure (not z)
goes_on WhileCy = flag CY
goes_on WhileNotCy = do
  c ← flag CY
  pure (not c)

-- the other primitives ignore flags
unfoldable pub goes_on_after : Primitive → Repeat → Act Bool
goes_on_after Movbk q = pure true
goes_on_after Cmpbk q = goes_on q
goes_on_after Cmpm q = goes_on q
goes_on_after Ldm q = pure true
goes_on_after Stm q = pure true
goes_on_after Inm q = pure true
goes_on_after Outm q = pure true

-- after the primitive CW falls by one, and PC goes back to the first prefix unless CW is now 0 or the comparison ends it
unfoldable pub after_element : Primitive → Repeat → ℕ → Act Unit
after_element k q start = do
  left ← count_down
  on ← goes_on_after k q
  pick (on && left) (PC ≔ start) (pure tt)

unfoldable pub element : Primitive → Bool → ℕ → Repeat → ℕ → Act Unit
element k w seg q start = do
  primitive k w seg
  after_element k q start

-- with CW = 0 nothing more is done
unfoldable pub repeated : Primitive → Bool → ℕ → Repeat → ℕ → Act Unit
repeated k w seg q start = do
  r ← registers
  pick (eqb (r CW) 0) (pure tt) (element k w seg q start)

unfoldable pub block : Primitive → Bool → ℕ → Repeat → ℕ → Act Unit
block k w seg Once start = primitive k w seg
block k w seg WhileZ start = repeated k w seg WhileZ start
block k w seg WhileNotZ start = repeated k w seg WhileNotZ start
block k w seg WhileCy start = repeated k w seg WhileCy start
block k w seg WhileNotCy start = repeated k w seg WhileNotCy start
