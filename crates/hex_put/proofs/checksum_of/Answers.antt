use Rattle.hex_form.specs.Writing.{checksum}
use native.Mathlib.Omega.{arith}
use Rattle.hex_put.proofs.Laws.{sum_bound}
use Rattle.hex_put.proofs.checksum_of.Goals as goal

pub overflow_sub-result : goal.overflow_sub-result
overflow_sub-result c = omega (arith, sum_bound _ _ c.sum_of.ensures)

pub returns : goal.returns
unfolding checksum
returns c = cc
