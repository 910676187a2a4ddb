use Rattle.code_bytes.proofs.Laws.{negative_reads, positive_reads}
use Rattle.std.proofs.Common.{rules}
use Rattle.code_bytes.proofs.Code.short.Goals as goal

pub returns-then-b-lt128 : goal.returns-then-b-lt128
returns-then-b-lt128 c = search (positive_reads, rules)

pub returns-else-b-lt128 : goal.returns-else-b-lt128
returns-else-b-lt128 c = search (negative_reads, rules)
