use Rattle.hex_write.proofs.Lines.{short_chunk, long_chunk}
use borrow.Author.Rules.{rules}
use Rattle.hex_write.proofs.chunk_len.Goals as goal

pub returns-then-a-g : goal.returns-then-a-g
returns-then-a-g c = search (short_chunk, rules)

pub returns : goal.returns
returns c = search (long_chunk, rules)
