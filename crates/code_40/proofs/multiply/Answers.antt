use Rattle.code_operand.proofs.OperandsLaws.{with_place_lem}
use Rattle.code_answer.proofs.FollowLaws.{with_short_lem, with_word_lem}
use Rattle.code_40.proofs.multiply.Goals as goal

pub returns-then-word : goal.returns-then-word
returns-then-word c = with_place_lem c.operands-o.ensures _ (rw c.if-word.true (with_word_lem _ c.word.ensures c.known.ensures))

pub returns : goal.returns
returns c = with_place_lem c.operands-o.ensures _ (rw c.if-word.false (with_short_lem _ c.short.ensures c.known-2.ensures))
