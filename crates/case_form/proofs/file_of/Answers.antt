use Rattle.std.proofs.Common.{rules, refl}
use Rattle.case_form.specs.Form.{file_of}
use Rattle.case_form.proofs.Laws.{file_more}
use Rattle.case_form.proofs.file_of.Goals as goal

pub loop-i-init : goal.loop-i-init
unfolding file_of
loop-i-init c = refl

pub loop-i-preserved : goal.loop-i-preserved
loop-i-preserved c = search (file_more, rules)
