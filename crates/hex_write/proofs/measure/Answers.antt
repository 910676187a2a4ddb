use Rattle.hex_write.proofs.Lines.{chunk_bound}
use borrow.Author.Rules.{rules}
use native.Mathlib.Omega.{arith}
use Rattle.hex_write.proofs.Lines.{measure_begun, measured_more, measured}
use Rattle.hex_write.proofs.measure.Goals as goal

pub loop-i-init : goal.loop-i-init
loop-i-init c = search (measure_begun, rules)

pub overflow_add-len : goal.overflow_add-len
overflow_add-len c = omega (arith, chunk_bound _ _ _ c.chunk_len-len.ensures)

pub loop-i-preserved : goal.loop-i-preserved
loop-i-preserved c = search (measured_more, rules)

pub returns : goal.returns
returns c = search (measured, rules)
