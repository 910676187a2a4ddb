use Rattle.hex_write.proofs.Lines.{end_same}
use borrow.Author.Rules.{rules}
use native.Mathlib.Omega.{arith}
use Rattle.hex_write.proofs.Lines.{part_few, begun, at_within, chunk_room, on, put, end_room, end_fits, end_put}
use Rattle.hex_write.proofs.put_lines.Goals as goal

pub loop-i-init : goal.loop-i-init
loop-i-init c = search (begun, rules)

pub slice_bounds-put_chunk-count : goal.slice_bounds-put_chunk-count
slice_bounds-put_chunk-count c = search (at_within, rules)

pub slice_bounds-put_chunk-start : goal.slice_bounds-put_chunk-start
slice_bounds-put_chunk-start c = search (at_within, rules)

pub put_chunk-at-requires : goal.put_chunk-at-requires
put_chunk-at-requires c = (search rules, (search rules, (search (part_few, rules), search (chunk_room, rules))))

pub overflow_add-at : goal.overflow_add-at
overflow_add-at c = omega (arith, on c.loop-i.invariant c.requires.1 c.requires.0 c.loop-i-test.true c.chunk_end-end.ensures c.put_chunk-at.ensures)

pub loop-i-preserved : goal.loop-i-preserved
loop-i-preserved c = search (put, rules)

pub slice_bounds-put_record-count : goal.slice_bounds-put_record-count
slice_bounds-put_record-count c = search (at_within, rules)

pub slice_bounds-put_record-start : goal.slice_bounds-put_record-start
slice_bounds-put_record-start c = search (at_within, rules)

pub put_record-requires : goal.put_record-requires
put_record-requires c = (search rules, search (end_room, rules))

pub overflow_add-result : goal.overflow_add-result
overflow_add-result c = omega (arith, end_fits c.loop-i.invariant c.requires.1 (omega arith) c.put_record.ensures)

pub shape_of-out : goal.shape_of-out
shape_of-out c = search (end_same, rules)

pub returns : goal.returns
returns c = search (end_put, rules)
