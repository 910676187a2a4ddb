use Rattle.std.proofs.Common.{rules}
use Rattle.case_bytes.proofs.Laws.{none_patched, patched_more}
use Rattle.case_bytes.proofs.patch_all.Goals as goal

pub loop-i-init : goal.loop-i-init
loop-i-init c = search (none_patched, rules)

pub loop-i-preserved : goal.loop-i-preserved
loop-i-preserved c = search (patched_more, rules)
