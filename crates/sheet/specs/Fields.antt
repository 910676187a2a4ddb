-- INS and EXT: bit fields in memory.
-- 001:648-674, 1276-1283; 000:958-965; 01:19, 60
use Rattle.std.specs.Prelude.{Bool, true, false, ℕ, ◌+◌, ◌-◌, ◌*◌, ◌/◌, ◌%◌, ◌^◌, min, leb, ltb}
use Rattle.sheet.specs.declared.Field.{Field}
use Rattle.sheet.specs.declared.Field.TheVariants.{Ins, Ext}
use Rattle.sheet.specs.declared.Length.{Length}
use Rattle.sheet.specs.declared.Length.TheVariants.{InRegister, Given}
use Rattle.sheet.specs.Width.{pick, add16}
use Rattle.sheet.specs.Registers.{AW, IX, IY, DS1, File, segment}
use Rattle.sheet.specs.Act.{Act, pure, ◌>>=◌, ◌>>◌, registers, ◌≔◌, peek, poke}
use Rattle.sheet.specs.Operand.{reg_value, set_reg}

-- x with its n bits from bit `at` on replaced by the low n bits of v
unfoldable pub replaced : (x at n v : ℕ) → ℕ
replaced x at n v = x / 2 ^ (at + n) * 2 ^ (at + n) + v % 2 ^ n * 2 ^ at + x % 2 ^ at

-- the n bits of x from bit `at` on
unfoldable pub field_of : (x at n : ℕ) → ℕ
field_of x at n = x / 2 ^ at % 2 ^ n

-- the low 4 bits of the length's code, and 1
unfoldable pub length_of : Length → Act ℕ
length_of (InRegister n) = do
  v ← reg_value false n
  pure (v % 16 + 1)
length_of (Given n) = pure (n % 16 + 1)

-- the offset register shows the next field, and the index register n rises by 2 where that lies in the next word
unfoldable pub advance : (offset n sum : ℕ) → Act Unit
advance offset n sum = do
  set_reg false offset (sum % 16)
  r ← registers
  n ≔ pick (leb 16 sum) (add16 (r n) 2) (r n)

-- a word is read, then written
unfoldable pub insert_into : (base offset at n v : ℕ) → Act Unit
insert_into base offset at n v = do
  x ← peek true base offset
  poke true base offset (replaced x at n v)

-- what goes into the word at IY, and what of the field lies beyond it and goes into the next
unfoldable pub first_part : File → (at n : ℕ) → Act Unit
first_part r at n = insert_into (r DS1) (r IY) at (min n (16 - at)) (r AW)

unfoldable pub second_part : File → (at n : ℕ) → Act Unit
second_part r at n = pick (ltb 16 (at + n)) (insert_into (r DS1) (add16 (r IY) 2) 0 (at + n - 16) (r AW / 2 ^ (16 - at))) (pure tt)

unfoldable pub ins : ℕ → Length → Act Unit
ins offset length = do
  o ← reg_value false offset
  n ← length_of length
  r ← registers
  let at : ℕ = o % 16
  first_part r at n
  second_part r at n
  advance offset IY (at + n)

-- the word at the source and, where the field goes beyond it, the next one above it
unfoldable pub window : (base offset : ℕ) → Bool → Act ℕ
window base offset false = peek true base offset
window base offset true = do
  low ← peek true base offset
  high ← peek true base (add16 offset 2)
  pure (low + 65536 * high)

unfoldable pub ext : ℕ → ℕ → Length → Act Unit
ext seg offset length = do
  o ← reg_value false offset
  n ← length_of length
  r ← registers
  let at : ℕ = o % 16
  x ← window (r (segment seg)) (r IX) (ltb 16 (at + n))
  AW ≔ field_of x at n
  advance offset IX (at + n)

unfoldable pub field : Field → Act Unit
field (Ins offset length) = ins offset length
field (Ext seg offset length) = ext seg offset length
