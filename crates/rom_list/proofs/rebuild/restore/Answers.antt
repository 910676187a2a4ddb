use native.Mathlib.Omega.{arith}
use borrow.Author.Rules.{rules}
use Rattle.rom_list.proofs.Characters.{digit_bound}
use Rattle.rom_list.proofs.Reading.{begun, room_kept, line_ended, passed, put, too_long, all_read}
use Rattle.rom_list.proofs.rebuild.restore.Goals as goal

pub loop-c-init : goal.loop-c-init
loop-c-init c = search (begun, rules)

pub bounds-lines-c-index : goal.bounds-lines-c-index
bounds-lines-c-index c = omega arith

pub overflow_add-column : goal.overflow_add-column
overflow_add-column c = omega (arith, c.loop-c.invariant.narrow)

pub loop-c-smaller-then-c-eq10 : goal.loop-c-smaller-then-c-eq10
loop-c-smaller-then-c-eq10 c = omega arith

pub loop-c-preserved-then-c-eq10 : goal.loop-c-preserved-then-c-eq10
loop-c-preserved-then-c-eq10 c = search (line_ended, rules)

pub shape_of-image-then-image-len : goal.shape_of-image-then-image-len
shape_of-image-then-image-len c = search (room_kept, rules)

pub returns-then-image-len : goal.returns-then-image-len
returns-then-image-len c = search (too_long, rules)

pub overflow_mul-image : goal.overflow_mul-image
overflow_mul-image c = omega (arith, c.loop-c.invariant.digit)

pub overflow_add-image : goal.overflow_add-image
overflow_add-image c = omega (arith, c.loop-c.invariant.digit, digit_bound _ c.digit.ensures)

pub bounds-image-len : goal.bounds-image-len
bounds-image-len c = omega arith

pub overflow_add-len : goal.overflow_add-len
overflow_add-len c = omega arith

pub loop-c-smaller-then-ends_byte : goal.loop-c-smaller-then-ends_byte
loop-c-smaller-then-ends_byte c = omega arith

pub loop-c-preserved-then-ends_byte : goal.loop-c-preserved-then-ends_byte
loop-c-preserved-then-ends_byte c = search (put, rules)

pub loop-c-smaller : goal.loop-c-smaller
loop-c-smaller c = omega arith

pub loop-c-preserved : goal.loop-c-preserved
loop-c-preserved c = search (passed, rules)

pub shape_of-image : goal.shape_of-image
shape_of-image c = search (room_kept, rules)

pub returns : goal.returns
returns c = search (all_read, rules)
