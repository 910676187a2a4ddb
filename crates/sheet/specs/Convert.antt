-- CVTBD, CVTDB, CVTBW, CVTWL.
-- 001:1379-1382; 000:1071-1074; 01:59
use Rattle.std.specs.Prelude.{true, false, ℕ, ◌+◌, ◌*◌, ◌/◌, ◌%◌}
use Rattle.sheet.specs.declared.Convert.{Convert}
use Rattle.sheet.specs.declared.Convert.TheVariants.{Adjba, Adj4a, Adjbs, Adj4s, Cvtbd, Cvtdb, Cvtbw, Cvtwl}
use Rattle.sheet.specs.declared.Way.TheVariants.{Addition, Subtraction}
use Rattle.sheet.specs.Adjust.{adj4, adjb}
use Rattle.sheet.specs.Width.{pick, sign_of, extend}
use Rattle.sheet.specs.Psw.{unknown}
use Rattle.sheet.specs.Registers.{AW, DW, AL, AH}
use Rattle.sheet.specs.Act.{Act, ◌>>=◌, ◌>>◌, registers, ◌≔◌, affect}
use Rattle.sheet.specs.Operand.{reg_value}
use Rattle.sheet.specs.Arithmetic.{Result, resulting}

-- AH and AL, with P, S and Z by AL
unfoldable pub converted : ℕ → ℕ → Result
converted ah al = record { value = ah * 256 + al; column = (resulting false al unknown unknown unknown).column }

unfoldable pub set_converted : ℕ → ℕ → Act Unit
set_converted ah al = do
  affect (converted ah al).column
  AW ≔ (converted ah al).value

unfoldable pub cvtbd : Act Unit
cvtbd = do
  x ← reg_value false AL
  set_converted (x / 10) (x % 10)

unfoldable pub cvtdb : Act Unit
cvtdb = do
  x ← reg_value false AL
  y ← reg_value false AH
  set_converted 0 ((y * 10 + x) % 256)

unfoldable pub cvtbw : Act Unit
cvtbw = do
  x ← reg_value false AL
  AW ≔ extend x

unfoldable pub cvtwl : Act Unit
cvtwl = do
  r ← registers
  DW ≔ pick (sign_of true (r AW)) 65535 0

-- with ADJ.. of Adjust
unfoldable pub convert : Convert → Act Unit
convert Adjba = adjb Addition
convert Adj4a = adj4 Addition
convert Adjbs = adjb Subtraction
convert Adj4s = adj4 Subtraction
convert Cvtbd = cvtbd
convert Cvtdb = cvtdb
convert Cvtbw = cvtbw
convert Cvtwl = cvtwl
