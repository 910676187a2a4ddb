use native.Mathlib.Omega.{arith}
use Rattle.code_answer.proofs.CodeLaws.{at_row}
use Rattle.code_90.proofs.Laws.{of_block, test_acc}
use mathlib.Core.Path.{refl}
use borrow.Author.Rules.{rules}
use Rattle.code_90.proofs.codesa0.Goals as goal
use Rattle.code_90.proofs.codesa0.Goals.{in-82, in-83, in-85, in-86, in_default}

pub returns-then-b-eq84 : goal.returns-then-b-eq84
returns-then-b-eq84 c = test_acc _ (omega arith) (omega arith) c.immediate-v.ensures c.known.ensures

pub returns : goal.returns
returns c = elim c.match-b-div2.branch [ in-82 w ↦ at_row 0xa4 refl (omega arith) (omega arith) (of_block c.args.b w.primitive-is c.block.ensures) | in-83 w ↦ at_row 0xa6 refl (omega arith) (omega arith) (of_block c.args.b w.primitive-is c.block.ensures) | in-85 w ↦ at_row 0xaa refl (omega arith) (omega arith) (of_block c.args.b w.primitive-is c.block.ensures) | in-86 w ↦ at_row 0xac refl (omega arith) (omega arith) (of_block c.args.b w.primitive-is c.block.ensures) | in_default w ↦ at_row 0xae refl (omega arith) (search rules) (of_block c.args.b w.primitive-is c.block.ensures) ]
