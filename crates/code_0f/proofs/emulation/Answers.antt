use Rattle.sheet.specs.SecondByte.{break_for_emulation}
use Rattle.code_answer.proofs.DecodesLaws.{decodes_seq, decodes_known}
use Rattle.code_0f.proofs.emulation.Goals as goal

pub returns : goal.returns
unfolding break_for_emulation
returns c = decodes_seq _ c.byte-vector.ensures (decodes_known c.known.ensures)
