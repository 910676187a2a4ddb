use Rattle.std.proofs.Common.{rules, refl}
use Rattle.case_form.specs.Form.{with_file}
use Rattle.case_form.proofs.Laws.{with_more}
use Rattle.case_form.proofs.put_file.Goals as goal

pub loop-i-init : goal.loop-i-init
unfolding with_file
loop-i-init c = refl

pub loop-i-preserved : goal.loop-i-preserved
loop-i-preserved c = search (with_more, rules)
