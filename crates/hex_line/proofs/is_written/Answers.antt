use native.Mathlib.Omega.{arith}
use Rattle.hex_line.proofs.Bounds.{width_bound}
use Rattle.hex_line.proofs.is_written.Goals as goal

pub ending_at-ends-requires : goal.ending_at-ends-requires
ending_at-ends-requires c = omega (arith, width_bound _ c.width_of.ensures)
