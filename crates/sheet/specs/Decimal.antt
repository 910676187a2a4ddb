-- Strings of decimal digits: ADD4S, SUB4S, CMP4S; ROL4, ROR4.
-- 001:676-708, 1322-1328; 000:1007-1013; 01:19, 58-59
use Rattle.std.specs.Prelude.{Bool, true, false, ◌&&◌, ℕ, ◌+◌, ◌*◌, ◌/◌, ◌%◌, eqb}
use Rattle.sheet.specs.declared.Decimal.{Decimal}
use Rattle.sheet.specs.declared.Decimal.TheVariants.{Add4s, Sub4s, Cmp4s, Rol4, Ror4}
use Rattle.sheet.specs.declared.Place.{Place}
use Rattle.sheet.specs.declared.Digits.{Digits}
use Rattle.sheet.specs.declared.Way.{Way}
use Rattle.sheet.specs.declared.Way.TheVariants.{Addition, Subtraction}
use Rattle.sheet.specs.declared.Storing.{Storing}
use Rattle.sheet.specs.declared.Storing.TheVariants.{Stored, NotStored}
use Rattle.sheet.specs.declared.Chain.{Chain}
use Rattle.sheet.specs.Width.{pick, add16}
use Rattle.sheet.specs.Psw.{unknown, becomes, columns}
use Rattle.sheet.specs.Registers.{IX, IY, DS1, AL, CL, segment}
use Rattle.sheet.specs.Act.{Act, pure, ◌>>=◌, ◌>>◌, registers, affect, peek, poke, loop}
use Rattle.sheet.specs.Operand.{locate, fetch, deposit, reg_value, set_reg}
use Rattle.sheet.specs.Adjust.{plain, adjusted}

-- ---- strings

-- one byte of a string: added or subtracted with the carry so far, and adjusted
unfoldable pub digits : Way → ℕ → ℕ → Bool → Digits
digits way a b c = adjusted way (plain way a b c)

abbrev pub stores : Storing → Bool
stores Stored = true
stores NotStored = false

abbrev pub chain_of : Chain → Digits → Chain
chain_of c d = record { cy = d.cy; zero = c.zero && eqb d.value 0 }

-- byte i of the strings at DS1:IY and at the source segment's IX
unfoldable pub link : Way → Storing → ℕ → ℕ → Chain → Act Chain
link way k seg i c = do
  r ← registers
  a ← peek false (r DS1) (add16 (r IY) i)
  b ← peek false (r (segment seg)) (add16 (r IX) i)
  pick (stores k) (poke false (r DS1) (add16 (r IY) i) (digits way a b c.cy).value) (pure tt)
  pure (chain_of c (digits way a b c.cy))

-- no carry comes in, and all results so far are zero
abbrev pub begun : Chain
begun = record { cy = false; zero = true }

-- the first n bytes of the strings, lowest address first
unfoldable pub chained : Way → Storing → (seg n : ℕ) → Act Chain
chained way k seg n = loop (link way k seg) n 0 begun

-- (CL + 1) div 2 bytes
unfoldable pub string : Way → Storing → ℕ → Act Unit
string way k seg = do
  n ← reg_value false CL
  c ← chained way k seg ((n + 1) / 2)
  affect (columns unknown (becomes c.cy) unknown unknown unknown (becomes c.zero))

abbrev pub add4s : ℕ → Act Unit
add4s seg = string Addition Stored seg

abbrev pub sub4s : ℕ → Act Unit
sub4s seg = string Subtraction Stored seg

abbrev pub cmp4s : ℕ → Act Unit
cmp4s seg = string Subtraction NotStored seg

-- ---- ROL4 and ROR4: a digit goes round through the low digit of AL, whose high digit is kept

unfoldable pub rol4 : Place → Act Unit
rol4 dst = do
  al ← reg_value false AL
  s ← locate dst
  x ← fetch false s
  deposit false s (x % 16 * 16 + al % 16)
  set_reg false AL (al / 16 * 16 + x / 16)

unfoldable pub ror4 : Place → Act Unit
ror4 dst = do
  al ← reg_value false AL
  s ← locate dst
  x ← fetch false s
  deposit false s (al % 16 * 16 + x / 16)
  set_reg false AL (al / 16 * 16 + x % 16)

unfoldable pub decimal : Decimal → Act Unit
decimal (Add4s seg) = add4s seg
decimal (Sub4s seg) = sub4s seg
decimal (Cmp4s seg) = cmp4s seg
decimal (Rol4 to) = rol4 to
decimal (Ror4 to) = ror4 to
