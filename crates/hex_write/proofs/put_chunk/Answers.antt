use native.Mathlib.Omega.{arith}
use Rattle.hex_write.proofs.Laws.{chunk_front, segment_under, offset_small, data_room, chunk_fits, chunk_put}
use borrow.Author.Rules.{rules}
use Rattle.hex_write.proofs.put_chunk.Goals as goal

pub put_turn-at-requires : goal.put_turn-at-requires
put_turn-at-requires c = (search rules, search (chunk_front, rules))

pub overflow_mul-offset : goal.overflow_mul-offset
overflow_mul-offset c = omega (arith, segment_under _ _ c.requires.1.0 c.segment_for-h.ensures)

pub overflow_sub-offset : goal.overflow_sub-offset
overflow_sub-offset c = search (segment_under, rules)

pub overflow_cast-offset-2 : goal.overflow_cast-offset-2
overflow_cast-offset-2 c = omega (arith, offset_small _ _ c.requires.1.0 c.segment_for-h.ensures)

pub put_record-requires : goal.put_record-requires
put_record-requires c = (search rules, search (data_room, rules))

pub overflow_add-result : goal.overflow_add-result
overflow_add-result c = search (chunk_fits, rules)

pub returns : goal.returns
returns c = search (chunk_put, rules)
