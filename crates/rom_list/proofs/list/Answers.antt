use Rattle.rom_list.proofs.Laws.{has_no_room, is_listed, is_too_long}
use borrow.Author.Rules.{rules}
use Rattle.rom_list.proofs.list.Goals as goal

pub returns-then-image-gt32768 : goal.returns-then-image-gt32768
returns-then-image-gt32768 c = search (is_too_long, rules)

pub returns-then-out-measure : goal.returns-then-out-measure
returns-then-out-measure c = search (has_no_room, rules)

pub returns : goal.returns
returns c = search (is_listed, rules)
