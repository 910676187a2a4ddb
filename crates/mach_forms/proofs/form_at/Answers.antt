use Rattle.mach_forms.proofs.Laws.{form_is}
use mathlib.Core.Path.{refl}
use Rattle.mach_forms.proofs.form_at.Goals as goal

pub returns : goal.returns
returns c = form_is _ _ _ refl
