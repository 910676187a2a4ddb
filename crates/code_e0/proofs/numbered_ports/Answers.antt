use Rattle.code_answer.proofs.CodeLaws.{at_row}
use mathlib.Core.Path.{refl}
use Rattle.code_answer.proofs.FollowLaws.{with_byte_lem}
use borrow.Author.Rules.{rules}
use Rattle.code_e0.proofs.numbered_ports.Goals as goal
use Rattle.code_e0.proofs.numbered_ports.Goals.{else-b-lt230, then-b-lt230}

pub returns : goal.returns
returns c = elim c.if-b-lt230.branch [ then-b-lt230 w ↦ at_row 0xe4 refl (search rules) (search rules) (with_byte_lem _ c.byte.ensures (rw w.group-is at c.known.ensures)) | else-b-lt230 w ↦ at_row 0xe6 refl (search rules) (search rules) (with_byte_lem _ c.byte.ensures (rw w.group-is at c.known.ensures)) ]
