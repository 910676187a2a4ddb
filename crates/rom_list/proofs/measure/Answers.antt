use native.Mathlib.Omega.{arith}
use Rattle.rom_list.proofs.Laws.{counting_begun, moves, counting_more, counted}
use Rattle.rom_list.proofs.measure.Goals as goal

pub overflow_cast-a : goal.overflow_cast-a
overflow_cast-a c = omega (arith, c.requires)

pub overflow_sub-a : goal.overflow_sub-a
overflow_sub-a c = omega (arith, c.requires)

pub loop-a-init : goal.loop-a-init
loop-a-init c = counting_begun _ c.requires

pub line_at-made-requires : goal.line_at-made-requires
line_at-made-requires c = (c.loop-a.invariant.low, (c.loop-a-test.true, c.requires))

pub overflow_add-sum : goal.overflow_add-sum
overflow_add-sum c =
    let m = counting_more c.loop-a.invariant c.loop-a-test.true c.line_at-made.ensures in
    omega (arith, m.small, m.high, c.requires, c.len-sum.ensures)

pub overflow_cast-a-in-loop-a : goal.overflow_cast-a-in-loop-a
overflow_cast-a-in-loop-a c = let s = moves _ c.loop-a-test.true c.line_at-made.ensures.counts in omega (arith, s.fits, s.few)

pub overflow_add-a : goal.overflow_add-a
overflow_add-a c = let s = moves _ c.loop-a-test.true c.line_at-made.ensures.counts in omega (arith, s.fits, s.few)

pub loop-a-smaller : goal.loop-a-smaller
loop-a-smaller c = let s = moves _ c.loop-a-test.true c.line_at-made.ensures.counts in omega (arith, s.some, s.fits)

pub loop-a-preserved : goal.loop-a-preserved
loop-a-preserved c = rw c.len-sum.ensures (counting_more c.loop-a.invariant c.loop-a-test.true c.line_at-made.ensures)

pub returns : goal.returns
returns c = counted c.loop-a.invariant c.loop-a-test.false
