use native.Mathlib.Omega.{arith}
use Rattle.code_answer.proofs.CodeLaws.{at_one}
use mathlib.Core.Path.{refl}
use Rattle.code_answer.proofs.FollowLaws.{with_short_lem}
use Rattle.code_e0.proofs.loops.Goals as goal
use Rattle.code_e0.proofs.loops.Goals.{in-224, in-225, in-226, in_default}

pub returns : goal.returns
returns c = elim c.match-b.branch [ in-224 w ↦ at_one 0xe0 refl refl w.in-224.is (with_short_lem _ c.short-disp.ensures (rw w.group-is at c.known.ensures)) | in-225 w ↦ at_one 0xe1 refl refl w.in-225.is (with_short_lem _ c.short-disp.ensures (rw w.group-is at c.known.ensures)) | in-226 w ↦ at_one 0xe2 refl refl w.in-226.is (with_short_lem _ c.short-disp.ensures (rw w.group-is at c.known.ensures)) | in_default w ↦ at_one 0xe3 refl refl (omega arith) (with_short_lem _ c.short-disp.ensures (rw w.group-is at c.known.ensures)) ]
