use native.Mathlib.Omega.{arith}
use Rattle.rom_list.proofs.Agreeing.{begun, on_by_one, few, line_agrees, line_differs, all_compared}
use borrow.Author.Rules.{rules}
use Rattle.rom_list.proofs.rebuild.agrees.Goals as goal

pub overflow_cast-a : goal.overflow_cast-a
overflow_cast-a c = omega (arith, c.requires)

pub overflow_sub-a : goal.overflow_sub-a
overflow_sub-a c = omega (arith, c.requires)

pub loop-a-init : goal.loop-a-init
loop-a-init c = begun _ _ (omega (arith, c.requires))

pub line_at-made-requires : goal.line_at-made-requires
line_at-made-requires c = (c.loop-a.invariant.low, (c.loop-a-test.true, c.requires))

pub slice_bounds-begins-count : goal.slice_bounds-begins-count
slice_bounds-begins-count c = omega (arith, c.loop-a.invariant.place)

pub slice_bounds-begins-start : goal.slice_bounds-begins-start
slice_bounds-begins-start c = omega (arith, c.loop-a.invariant.place)

pub slice_bounds-begins-end : goal.slice_bounds-begins-end
slice_bounds-begins-end c = omega (arith, c.loop-a.invariant.place)

pub returns-then-not-begins : goal.returns-then-not-begins
returns-then-not-begins c = line_differs c.loop-a.invariant c.loop-a-test.true c.line_at-made.ensures (rw c.as_bytes.ensures at c.begins.ensures) c.if-not-begins.true

pub overflow_add-at : goal.overflow_add-at
overflow_add-at c = omega (arith, (line_agrees c.loop-a.invariant c.loop-a-test.true c.line_at-made.ensures (rw c.as_bytes.ensures at c.begins.ensures) c.if-not-begins.false).place, c.len-at.ensures)

pub overflow_cast-a-in-loop-a : goal.overflow_cast-a-in-loop-a
overflow_cast-a-in-loop-a c = omega (arith, few c.loop-a.invariant c.loop-a-test.true c.line_at-made.ensures (rw c.as_bytes.ensures at c.begins.ensures))

pub overflow_add-a : goal.overflow_add-a
overflow_add-a c = omega (arith, few c.loop-a.invariant c.loop-a-test.true c.line_at-made.ensures (rw c.as_bytes.ensures at c.begins.ensures))

pub loop-a-smaller : goal.loop-a-smaller
loop-a-smaller c = omega (arith, on_by_one c.loop-a.invariant c.loop-a-test.true c.line_at-made.ensures (rw c.as_bytes.ensures at c.begins.ensures))

pub loop-a-preserved : goal.loop-a-preserved
loop-a-preserved c = rw c.len-at.ensures (line_agrees c.loop-a.invariant c.loop-a-test.true c.line_at-made.ensures (rw c.as_bytes.ensures at c.begins.ensures) c.if-not-begins.false)

pub returns : goal.returns
returns c = search (all_compared, rules)
