use mathlib.Core.List.{[]}
use native.Mathlib.Omega.{arith}
use Rattle.code_answer.proofs.CodeLaws.{at_one, at_rest}
use Rattle.code_answer.proofs.DecodesLaws.{decodes_known}
use Rattle.code_answer.proofs.FollowLaws.{with_far_lem}
use mathlib.Core.Path.{refl}
use Rattle.code_90.proofs.codes98.Goals as goal

pub returns-in-152 : goal.returns-in-152
returns-in-152 c = at_one 0x98 refl refl c.in-152.is (decodes_known c.known.ensures)

pub returns-in-153 : goal.returns-in-153
returns-in-153 c = at_one 0x99 refl refl c.in-153.is (decodes_known c.known-in-153.ensures)

pub returns-in-154 : goal.returns-in-154
returns-in-154 c = at_one 0x9a refl refl c.in-154.is (with_far_lem _ c.far-to.ensures.0 c.far-to.ensures.1 c.known-in-154.ensures)

pub returns-in-155 : goal.returns-in-155
returns-in-155 c = at_rest 0x9b 1 [] refl tt (omega arith) (omega arith)

pub returns-in-156 : goal.returns-in-156
returns-in-156 c = at_one 0x9c refl refl c.in-156.is (decodes_known c.known-in-156.ensures)

pub returns-in-157 : goal.returns-in-157
returns-in-157 c = at_one 0x9d refl refl c.in-157.is (decodes_known c.known-in-157.ensures)

pub returns-in-158 : goal.returns-in-158
returns-in-158 c = at_one 0x9e refl refl c.in-158.is (decodes_known c.known-in-158.ensures)

pub returns-in_default : goal.returns-in_default
returns-in_default c = at_one 0x9f refl refl (omega arith) (decodes_known c.known-in_default.ensures)
