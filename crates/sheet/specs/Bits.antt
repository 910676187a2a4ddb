-- TEST1, CLR1, SET1, NOT1 on one bit of an operand.
-- 001:1440-1482; 000:1120-1135; 002 for TEST1 and NOT1; 01:59
use Rattle.std.specs.Prelude.{Bool, true, false, not, ℕ, ◌%◌, ◌^◌}
use Rattle.sheet.specs.declared.Bit.{Bit}
use Rattle.sheet.specs.declared.Bit.TheVariants.{Test1, Clr1, Set1, Not1}
use Rattle.sheet.specs.declared.Place.{Place}
use Rattle.sheet.specs.declared.Spot.{Spot}
use Rattle.sheet.specs.declared.Amount.{Amount}
use Rattle.sheet.specs.Width.{pick}
use Rattle.sheet.specs.Psw.{unknown, becomes, Column, columns, bit, at}
use Rattle.sheet.specs.Act.{Act, ◌>>=◌, affect}
use Rattle.sheet.specs.Operand.{locate, fetch, deposit, amount_of}
use Rattle.sheet.specs.Fields.{replaced}

-- a bit's number: the low 3 bits of what is given for a byte, the low 4 for a word
unfoldable pub bit_number : Bool → ℕ → ℕ
bit_number w n = pick w (n % 16) (n % 8)

unfoldable pub bit_at : ℕ → ℕ → Bool
bit_at x n = at x (2 ^ n)

-- x with bit n as given
unfoldable pub with_bit : ℕ → ℕ → Bool → ℕ
with_bit x n b = replaced x n 1 (bit b)

-- TEST1: Z is 1 where the bit is 0
unfoldable pub bit_column : ℕ → ℕ → Column
bit_column x n = columns unknown (becomes false) (becomes false) unknown unknown (becomes (not (bit_at x n)))

unfoldable pub bit_done : Bit → Bool → Spot → ℕ → ℕ → Act Unit
bit_done Test1 w s x n = affect (bit_column x n)
bit_done Clr1 w s x n = deposit w s (with_bit x n false)
bit_done Set1 w s x n = deposit w s (with_bit x n true)
bit_done Not1 w s x n = deposit w s (with_bit x n (not (bit_at x n)))

unfoldable pub bits : Bit → Bool → Place → Amount → Act Unit
bits op w dst number = do
  n ← amount_of number
  s ← locate dst
  x ← fetch w s
  bit_done op w s x (bit_number w n)
