use native.Mathlib.Omega.{arith}
use Rattle.code_8080_00.proofs.Laws.{lda, lhld, shld, sta}
use Rattle.code_8080_00.proofs.load_or_store.Goals.{in-4, in-5, in-6, in_default}
use Rattle.code_8080_00.proofs.load_or_store.Goals as goal

pub returns : goal.returns
returns c = elim c.match-d.branch [ in-4 w ↦ shld _ w.in-4.is c.word.ensures (rw w.group-is at c.known.ensures) | in-5 w ↦ lhld _ w.in-5.is c.word.ensures (rw w.group-is at c.known.ensures) | in-6 w ↦ sta _ w.in-6.is c.word.ensures (rw w.group-is at c.known.ensures) | in_default w ↦ lda _ (omega arith) c.word.ensures (rw w.group-is at c.known.ensures) ]
