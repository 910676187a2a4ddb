use native.Mathlib.Omega.{arith}
use Rattle.hex_line.proofs.Bounds.{width_bound, ending_bound}
use Rattle.hex_line.proofs.span_of.Goals as goal

pub ending_at-requires : goal.ending_at-requires
ending_at-requires c = omega (arith, width_bound _ c.width_of-w.ensures)

pub overflow_add-result : goal.overflow_add-result
overflow_add-result c = omega (arith, width_bound _ c.width_of-w.ensures, ending_bound _ _ c.ending_at.ensures)
