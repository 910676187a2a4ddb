use Rattle.code_operand.proofs.Laws.{block_is}
use Rattle.code_operand.proofs.block.Goals as goal

pub returns : goal.returns
returns c = block_is _ _ c.args.r.prefixes _ _ _ c.blocks-2.ensures c.unwrap_or.ensures
