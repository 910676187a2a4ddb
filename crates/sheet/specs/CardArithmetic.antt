-- Arithmetic of the 8080 mode: native sums, differences, bitwise results, rotates and ADJ4A, with the flags of the uPD8080AF.
-- 001:920-925; 01:54, 57; CARDS 15-41
use Rattle.std.specs.Prelude.{ℕ, ◌%◌, Bool, true, false, not, ◌||◌, ltb}
use Rattle.std.specs.Int.Bits.{bit_and, bit_or, bit_xor}
use Rattle.sheet.specs.declared.Place.{Place}
use Rattle.sheet.specs.declared.Place.TheVariants.{Register}
use Rattle.sheet.specs.declared.Source.{Source}
use Rattle.sheet.specs.declared.Spot.TheVariants.{InRegister}
use Rattle.sheet.specs.declared.Operation.{Operation}
use Rattle.sheet.specs.declared.Operation.TheVariants.{Add, Or, Addc, Subc, And, Sub, Xor, Cmp}
use Rattle.sheet.specs.declared.Unary.TheVariants.{Not}
use Rattle.sheet.specs.declared.Shift.{Shift}
use Rattle.sheet.specs.declared.Way.TheVariants.{Addition}
use Rattle.sheet.specs.declared.cards.CardArithmetic.{CardArithmetic}
use Rattle.sheet.specs.declared.cards.CardArithmetic.TheVariants.{Two, Inr, Dcr, Inx, Dcx, Dad, Rotate, Daa, Cma}
use Rattle.sheet.specs.Width.{add16, sub16}
use Rattle.sheet.specs.Psw.{AC, CY, at, blank, becomes, columns}
use Rattle.sheet.specs.Registers.{BW, AL}
use Rattle.sheet.specs.Act.{Act, pure, ◌>>=◌, ◌>>◌, flag, affect, set_flag}
use Rattle.sheet.specs.Operand.{locate, fetch, reg_value, set_reg, source_value}
use Rattle.sheet.specs.Arithmetic.{Result, sum, difference, logical, added, carry, half_borrow, sparing_cy, finish, conclude, one}
use Rattle.sheet.specs.Shift.{turn, one_place, rotated, carry_in}
use Rattle.sheet.specs.Adjust.{digits_of, packed_result}

-- ---- results of bytes

-- a native result; V stays
unfoldable pub sparing_v : Result → Result
sparing_v r =
    record { value = r.value; column = columns r.column.ac r.column.cy blank r.column.p r.column.s r.column.z }

-- the same with another AC
unfoldable pub with_ac : Bool → Result → Result
with_ac ac r =
    record { value = r.value; column = columns (becomes ac) r.column.cy blank r.column.p r.column.s r.column.z }

-- a + b + c
unfoldable pub card_sum : ℕ → ℕ → Bool → Result
card_sum a b c = sparing_v (sum false a b c)

-- a - b - c: AC is the carry out of bit 3 of a + not b + 1 - c, so 1 where nothing is borrowed
unfoldable pub card_difference : ℕ → ℕ → Bool → Result
card_difference a b c = with_ac (not (half_borrow a b c)) (difference false a b c)

-- a and b: AC is bit 3 of either
unfoldable pub masked : ℕ → ℕ → Result
masked a b = with_ac (at a 8 || at b 8) (logical false (bit_and a b))

-- the other bitwise results: AC is 0
unfoldable pub bitwise : ℕ → Result
bitwise x = with_ac false (logical false x)

-- INR and DCR keep CY
unfoldable pub increased : ℕ → Result
increased a = sparing_cy (card_sum a 1 false)

unfoldable pub decreased : ℕ → Result
decreased a = sparing_cy (card_difference a 1 false)

-- ADJ4A, but for AC
unfoldable pub daa_result : ℕ → Bool → Bool → Result
daa_result x ac cy = with_ac (ltb 9 (x % 16)) (packed_result Addition (digits_of x ac cy))

-- ---- AL and a source

-- ADC and SBB alone read CY
unfoldable pub card_operate : Operation → ℕ → ℕ → Act Result
card_operate Add a b = pure (card_sum a b false)
card_operate Or a b = pure (bitwise (bit_or a b))
card_operate Addc a b = do
  c ← flag CY
  pure (card_sum a b c)
card_operate Subc a b = do
  c ← flag CY
  pure (card_difference a b c)
card_operate And a b = pure (masked a b)
card_operate Sub a b = pure (card_difference a b false)
card_operate Xor a b = pure (bitwise (bit_xor a b))
card_operate Cmp a b = pure (card_difference a b false)

unfoldable pub card_two : Operation → Source → Act Unit
card_two op from = do
  a ← reg_value false AL
  b ← source_value false from
  r ← card_operate op a b
  affect r.column
  conclude op false (InRegister AL) r.value

-- ---- one operand: INR and DCR

unfoldable pub changing : (ℕ → Result) → Place → Act Unit
changing f to = do
  s ← locate to
  a ← fetch false s
  finish false s (f a)

-- ---- pairs: INX and DCX change no flag, DAD changes CY alone

unfoldable pub counting : (ℕ → ℕ) → ℕ → Act Unit
counting f pair = do
  x ← reg_value true pair
  set_reg true pair (f x)

abbrev pub up : ℕ → ℕ
up x = add16 x 1

abbrev pub down : ℕ → ℕ
down x = sub16 x 1

unfoldable pub dad : ℕ → Act Unit
dad pair = do
  x ← reg_value true BW
  y ← reg_value true pair
  set_flag CY (carry true x y false)
  set_reg true BW (added true x y false)

-- ---- AL alone

-- RLC, RRC, RAL, RAR by ROL, ROR, ROLC, RORC: CY alone changes
unfoldable pub rotate : Shift → Act Unit
rotate k = do
  x ← reg_value false AL
  cy ← carry_in k
  finish false (InRegister AL) (rotated (one_place k false (turn x cy)) blank)

unfoldable pub daa : Act Unit
daa = do
  x ← reg_value false AL
  ac ← flag AC
  cy ← flag CY
  finish false (InRegister AL) (daa_result x ac cy)

unfoldable pub cma : Act Unit
cma = one Not false (Register AL)

unfoldable pub card_calculate : CardArithmetic → Act Unit
card_calculate (Two op from) = card_two op from
card_calculate (Inr to) = changing increased to
card_calculate (Dcr to) = changing decreased to
card_calculate (Inx pair) = counting up pair
card_calculate (Dcx pair) = counting down pair
card_calculate (Dad pair) = dad pair
card_calculate (Rotate k) = rotate k
card_calculate Daa = daa
card_calculate Cma = cma
