use Rattle.std.proofs.Common.{refl}
use Rattle.code_bytes.proofs.Laws.{byte_reads}
use Rattle.code_bytes.proofs.Code.byte.Goals as goal

pub returns : goal.returns
returns c = byte_reads _ _ _ _ _ _ _ refl c.read_byte.ensures
