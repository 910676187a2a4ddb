use Rattle.code_80.proofs.Laws.{with_immediate_lem}
use Rattle.code_80.proofs.with_immediate.Goals as goal

pub returns : goal.returns
returns c = with_immediate_lem c.operands-o.ensures _ _ _ _ c.operation.ensures c.small_immediate-v.ensures c.known.ensures
