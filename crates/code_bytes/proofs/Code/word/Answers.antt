use Rattle.code_bytes.proofs.Laws.{word_reads}
use Rattle.code_bytes.proofs.Code.word.Goals as goal

pub returns : goal.returns
returns c = word_reads _ _ _ c.from_le_bytes.ensures c.byte.ensures c.byte-2.ensures
