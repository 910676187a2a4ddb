use native.Mathlib.Omega.{arith}
use Rattle.base_laws.proofs.Writing.{same}
use Rattle.rom_list.proofs.Laws.{writing_begun, moves, line_room, writing_more, written}
use Rattle.rom_list.proofs.put_lines.Goals as goal

pub overflow_cast-a : goal.overflow_cast-a
overflow_cast-a c = omega (arith, c.requires.1)

pub overflow_sub-a : goal.overflow_sub-a
overflow_sub-a c = omega (arith, c.requires.1)

pub loop-a-init : goal.loop-a-init
loop-a-init c = writing_begun _ _ c.requires.1

pub line_at-made-requires : goal.line_at-made-requires
line_at-made-requires c = (c.loop-a.invariant.low, (c.loop-a-test.true, c.requires.1))

pub slice_bounds-put_bytes-count : goal.slice_bounds-put_bytes-count
slice_bounds-put_bytes-count c = let w = c.loop-a.invariant.writes in omega (arith, same w, w.within)

pub slice_bounds-put_bytes-start : goal.slice_bounds-put_bytes-start
slice_bounds-put_bytes-start c = let w = c.loop-a.invariant.writes in omega (arith, same w, w.within)

pub slice_bounds-put_bytes-end : goal.slice_bounds-put_bytes-end
slice_bounds-put_bytes-end c = let w = c.loop-a.invariant.writes in omega (arith, same w, w.within)

pub put_bytes-at-requires : goal.put_bytes-at-requires
put_bytes-at-requires c = rw c.as_bytes.ensures (line_room c.loop-a.invariant c.loop-a-test.true c.requires.0 c.line_at-made.ensures)

pub overflow_add-at : goal.overflow_add-at
overflow_add-at c =
    let w = writing_more c.loop-a.invariant c.loop-a-test.true c.requires.0 c.line_at-made.ensures (rw c.as_bytes.ensures at c.put_bytes-at.ensures) in
    omega (arith, w.writes.within)

pub overflow_cast-a-in-loop-a : goal.overflow_cast-a-in-loop-a
overflow_cast-a-in-loop-a c = let s = moves _ c.loop-a-test.true c.line_at-made.ensures.counts in omega (arith, s.fits, s.few)

pub overflow_add-a : goal.overflow_add-a
overflow_add-a c = let s = moves _ c.loop-a-test.true c.line_at-made.ensures.counts in omega (arith, s.fits, s.few)

pub loop-a-smaller : goal.loop-a-smaller
loop-a-smaller c = let s = moves _ c.loop-a-test.true c.line_at-made.ensures.counts in omega (arith, s.some, s.fits)

pub loop-a-preserved : goal.loop-a-preserved
loop-a-preserved c = writing_more c.loop-a.invariant c.loop-a-test.true c.requires.0 c.line_at-made.ensures (rw c.as_bytes.ensures at c.put_bytes-at.ensures)

pub shape_of-out : goal.shape_of-out
shape_of-out c = same c.loop-a.invariant.writes

pub returns : goal.returns
returns c = written c.loop-a.invariant c.loop-a-test.false
