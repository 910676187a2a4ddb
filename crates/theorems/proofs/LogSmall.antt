-- That the log's theorems are not empty: NOP, then OUT 60h,AL with AL 41h makes one record, of gap 2.
use mathlib.Core.Path.{◌≡◌, refl}
use mathlib.Core.Bool.{false}
use mathlib.Core.List.{[], ◌∷◌}
use Rattle.sheet.specs.World.{World, world}
use Rattle.sheet.specs.Log.{groups_of, record_bytes, write_log}
use Rattle.sheet.specs.Registers.{read_reg}
use Rattle.sheet.specs.Handler.{recording, outputs}
use Rattle.sheet.specs.Operand.{reg_value}
use Rattle.sheet.specs.Ports.{port_number, ports}
use Rattle.sheet.specs.FirstByte.{with_byte}
use Rattle.theorems.specs.StandIns.{machine}
use Rattle.theorems.specs.Rows.{row_of, rows_of, since, rows_along, steps_from, world_after}
use Rattle.theorems.proofs.RepeatExample.{opened}

pub printing : World
printing = world (machine (0x41 ∷ 0 ∷ 0 ∷ 0 ∷ 0 ∷ 0 ∷ 0 ∷ 0 ∷ 0 ∷ 0 ∷ 0 ∷ 0 ∷ 0 ∷ 0xf002 ∷ []) false 0 []).state (0x90 ∷ 0xe6 ∷ 0x60 ∷ []) [] [] (0 ∷ 0 ∷ 0 ∷ 0 ∷ [])

-- port 60h, kind 1: key 181h
pub out_row : rows_along 0 (steps_from 2 printing) ≡ row_of 2 0x181 0x41 ∷ []
unfolding printing opened reg_value read_reg port_number ports recording outputs record_bytes groups_of write_log with_byte rows_of since rows_along steps_from
out_row = refl

pub out_bytes : (world_after 2 printing).log ≡ 0x02 ∷ 0x81 ∷ 0x03 ∷ 0x41 ∷ []
unfolding printing opened reg_value read_reg port_number ports recording outputs record_bytes groups_of write_log with_byte world_after
out_bytes = refl
