-- IN and OUT.
-- 001:1284-1289; 000:966-969; 01:70
use Rattle.std.specs.Prelude.{ℕ}
use Rattle.sheet.specs.declared.Port.{Port}
use Rattle.sheet.specs.declared.Port.TheVariants.{InDw, Numbered}
use Rattle.sheet.specs.declared.Io.{Io}
use Rattle.sheet.specs.declared.Io.TheVariants.{In, Out}
use Rattle.sheet.specs.Registers.{AW, DW}
use Rattle.sheet.specs.Act.{Act, pure, ◌>>=◌, registers, inp, out}
use Rattle.sheet.specs.Operand.{reg_value, set_reg}

unfoldable pub port_number : Port → Act ℕ
port_number InDw = do
  r ← registers
  pure (r DW)
port_number (Numbered n) = pure n

unfoldable pub ports : Io → Act Unit
ports (In w port) = do
  n ← port_number port
  v ← inp w n
  set_reg w AW v
ports (Out w port) = do
  n ← port_number port
  v ← reg_value w AW
  out w n v
