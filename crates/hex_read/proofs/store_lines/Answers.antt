use borrow.Author.Rules.{rules}
use native.Mathlib.Omega.{arith}
use Rattle.hex_read.proofs.Checking.{passes_small}
use Rattle.hex_read.proofs.Storing.{begun, fits, long, end_met, line_stored, text_ended}
use Rattle.hex_read.proofs.store_lines.Goals as goal

pub loop-at-init : goal.loop-at-init
loop-at-init c = search (begun, rules)

pub slice_bounds-pass-count : goal.slice_bounds-pass-count
slice_bounds-pass-count c = omega arith

pub slice_bounds-pass-start : goal.slice_bounds-pass-start
slice_bounds-pass-start c = omega arith

pub slice_bounds-pass-end : goal.slice_bounds-pass-end
slice_bounds-pass-end c = omega arith

pub returns-then-p-eq1 : goal.returns-then-p-eq1
returns-then-p-eq1 c = search (end_met, rules)

pub slice_bounds-store_line-count : goal.slice_bounds-store_line-count
slice_bounds-store_line-count c = omega arith

pub slice_bounds-store_line-start : goal.slice_bounds-store_line-start
slice_bounds-store_line-start c = omega arith

pub slice_bounds-store_line-end : goal.slice_bounds-store_line-end
slice_bounds-store_line-end c = omega arith

pub overflow_add-at : goal.overflow_add-at
overflow_add-at c = omega (arith, fits c.loop-at.invariant c.loop-at-test.true c.pass-p.ensures)

pub loop-at-smaller : goal.loop-at-smaller
loop-at-smaller c = omega (arith, long c.loop-at.invariant c.loop-at-test.true c.pass-p.ensures)

pub loop-at-preserved : goal.loop-at-preserved
loop-at-preserved c = search (line_stored, rules)

pub returns : goal.returns
returns c = search (text_ended, rules)

pub overflow_cast-segment-in-loop-at : goal.overflow_cast-segment-in-loop-at
overflow_cast-segment-in-loop-at c = omega (arith, passes_small c.pass-p.ensures c.loop-at.invariant.small)
