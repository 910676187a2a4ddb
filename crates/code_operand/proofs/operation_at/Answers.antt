use Rattle.sheet.specs.FirstByte.{operation_at}
use Rattle.base_laws.proofs.Table.{table_at}
use Rattle.code_operand.proofs.operation_at.Goals as goal

pub returns : goal.returns
unfolding operation_at
returns c = table_at operation_at _ 8 _ c.requires
