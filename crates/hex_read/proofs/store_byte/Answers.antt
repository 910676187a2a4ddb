use Rattle.hex_read.proofs.Storing.{first_known, place_known, byte_stored, byte_dropped}
use borrow.Author.Rules.{rules}
use Rattle.hex_read.proofs.store_byte.Goals as goal

pub overflow_sub-image : goal.overflow_sub-image
overflow_sub-image c = search (first_known, rules)

pub bounds-image-a : goal.bounds-image-a
bounds-image-a c = search (place_known, rules)

pub returns-then-is_inside : goal.returns-then-is_inside
returns-then-is_inside c = search (byte_stored, rules)

pub returns-else-is_inside : goal.returns-else-is_inside
returns-else-is_inside c = search (byte_dropped, rules)
