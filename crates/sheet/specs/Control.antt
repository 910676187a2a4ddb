-- HALT, NOP, DI, EI, and CLR1, SET1, NOT1 of CY and DIR.
-- 001:1462, 1487-1490, 1649-1658; 000:1145-1148, 1335-1344; 01:27
use Rattle.std.specs.Prelude.{true, false, not}
use Rattle.sheet.specs.declared.Control.{Control}
use Rattle.sheet.specs.declared.Control.TheVariants.{Nop, Halt, Di, Ei, ClrCy, SetCy, NotCy, ClrDir, SetDir}
use Rattle.sheet.specs.Psw.{CY, IE, DIR}
use Rattle.sheet.specs.Act.{Act, pure, ◌>>=◌, flag, set_flag, halted}

unfoldable pub control : Control → Act Unit
control Nop = pure tt
control Halt = halted true
control Di = set_flag IE false
control Ei = set_flag IE true
control ClrCy = set_flag CY false
control SetCy = set_flag CY true
control NotCy = do
  c ← flag CY
  set_flag CY (not c)
control ClrDir = set_flag DIR false
control SetDir = set_flag DIR true
