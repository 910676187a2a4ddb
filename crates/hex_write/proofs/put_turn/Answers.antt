use Rattle.hex_write.proofs.Laws.{turned_none, turn_room, turned}
use borrow.Author.Rules.{rules}
use Rattle.hex_write.proofs.put_turn.Goals as goal

pub returns-then-a-g : goal.returns-then-a-g
returns-then-a-g c = search (turned_none, rules)

pub put_segment-requires : goal.put_segment-requires
put_segment-requires c = search (turn_room, rules)

pub returns : goal.returns
returns c = search (turned, rules)
