use Rattle.std.proofs.Common.{rules}
use Rattle.case_bytes.proofs.Laws.{no_kinds, kinds_more, kind_unknown, all_kinds}
use Rattle.case_bytes.proofs.kinds.Goals as goal

pub loop-i-init : goal.loop-i-init
loop-i-init c = no_kinds _

pub loop-i-preserved : goal.loop-i-preserved
loop-i-preserved c = search (kinds_more, rules)

pub returns-then-patches-i-gt2 : goal.returns-then-patches-i-gt2
returns-then-patches-i-gt2 c = search (kind_unknown, rules)

pub returns : goal.returns
returns c = search (all_kinds, rules)
