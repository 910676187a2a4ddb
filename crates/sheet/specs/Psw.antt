-- PSW as flags and as 16 bits, and what an instruction does to it: a column of Table 8-4.
-- 001:519-550, 1146-1154; 01:14, 54; of MD 001:550, 883-943 and 02 m
use Rattle.std.specs.Prelude.{Bool, false, ℕ, ◌+◌, ◌*◌, ◌/◌, eqb}
use mir.Val.{bool_byte}
use Rattle.sheet.specs.Width.{pick, odd}

-- OV is V: antt has that name for itself
pub data Flag : Type 0 where
  CY P AC Z S BRK IE DIR OV : Flag

-- a flag's bit, as a power of two
abbrev pub weight : Flag → ℕ
weight CY = 1
weight P = 4
weight AC = 16
weight Z = 64
weight S = 128
weight BRK = 256
weight IE = 512
weight DIR = 1024
weight OV = 2048

-- a flag as a digit
abbrev pub bit : Bool → ℕ
bit b = bool_byte b

-- whether the digit of x at the power of two d is 1
abbrev pub at : ℕ → ℕ → Bool
at x d = odd (x / d)

abbrev pub flag_of : ℕ → Flag → Bool
flag_of x f = at x (weight f)

-- MD, the mode's bit: 1 in native mode, 0 in the 8080 mode
abbrev pub native_of : ℕ → Bool
native_of x = at x 32768

-- PSW with this MD and these flags: bits 1 and 12 to 14 are one, 3 and 5 zero
abbrev pub pack : Bool → (Flag → Bool) → ℕ
pack md g =
    0x7002 + 32768 * bit md + weight CY * bit (g CY) + weight P * bit (g P) + weight AC * bit (g AC) + weight Z * bit (g Z) + weight S * bit (g S)
    + weight BRK * bit (g BRK) + weight IE * bit (g IE) + weight DIR * bit (g DIR) + weight OV * bit (g OV)

-- the fixed bits are as they must be: packed again, MD and the flags of x make x
abbrev pub fixed_of : ℕ → Bool
fixed_of x = eqb x (pack (native_of x) (flag_of x))

-- what the sheet prints for one flag: nothing, U, or a value (0, 1, by the result, or R)
pub data Effect : Type 0 where
  blank unknown : Effect
  becomes : Bool → Effect

-- the sheet's six columns, in its order
pub record Column : Type 0 where
  pub ac : Effect
  pub cy : Effect
  pub v : Effect
  pub p : Effect
  pub s : Effect
  pub z : Effect

abbrev pub columns : (ac cy v p s z : Effect) → Column
columns ac cy v p s z = record { ac = ac; cy = cy; v = v; p = p; s = s; z = z }

-- a column leaves BRK, IE and DIR alone
abbrev pub column : Column → Flag → Effect
column c CY = c.cy
column c P = c.p
column c AC = c.ac
column c Z = c.z
column c S = c.s
column c BRK = blank
column c IE = blank
column c DIR = blank
column c OV = c.v

-- one flag alone becomes b
abbrev pub only : Flag → Bool → Flag → Effect
only f b g = pick (eqb (weight f) (weight g)) (becomes b) blank

-- IE and BRK become 0, as on entering a trap
abbrev pub entering : Flag → Effect
entering f = pick (eqb (weight IE) (weight f)) (becomes false) (only BRK false f)

-- all nine come from a stored PSW
abbrev pub restored : ℕ → Flag → Effect
restored x f = becomes (flag_of x f)

-- how unknown flags come out, by flag and old value
abbrev pub Choice : Type 0
Choice = Flag → Bool → Bool

-- document 01's choice: a flag marked U keeps its old value
abbrev pub keeps : Choice
keeps f old = old

abbrev pub settle : (Bool → Bool) → Effect → Bool → Bool
settle u blank old = old
settle u unknown old = u old
settle u (becomes b) old = b

-- PSW x after effects c, under the choice u; MD stays
unfoldable pub settled : Choice → (Flag → Effect) → ℕ → ℕ
settled u c x = pack (native_of x) (λ f. settle (u f) (c f) (flag_of x f))

-- PSW x with this MD
unfoldable pub in_mode : Bool → ℕ → ℕ
in_mode md x = pack md (flag_of x)

-- what becomes of MD, and of the permission to write it
pub data Crossing : Type 0 where
  -- native mode: traps, interrupts and CALLN
  to_native : Crossing
  -- the 8080 mode, and the permission is given: BRKEM
  to_cards : Crossing
  -- native mode, and the permission is taken back: RETEM
  back : Crossing
  -- MD of a stored PSW, under the permission alone: POP PSW and RETI
  stored : Bool → Crossing
