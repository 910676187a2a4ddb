use Rattle.hex_put.proofs.Laws.{record_room}
use Rattle.hex_put.proofs.put_record.Goals as goal

pub put_bytes-requires : goal.put_bytes-requires
put_bytes-requires c = rw (c.as_bytes.ensures, c.line_of.ensures) (record_room _ _ _ _ c.requires.1)

pub returns : goal.returns
returns c = rw (c.as_bytes.ensures, c.line_of.ensures) at c.put_bytes.ensures
