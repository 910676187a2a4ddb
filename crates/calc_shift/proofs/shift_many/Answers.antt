use mathlib.Core.Path.{◌∙◌}
use Rattle.sheet.specs.Shift.{shift_many}
use Rattle.calc_shift.proofs.Kept.{kept_v}
use Rattle.calc_shift.proofs.shift_many.Goals as goal

pub returns : goal.returns
unfolding shift_many
returns c =
    c.after.ensures ∙ rw (c.flag.ensures, c.many_places-t.ensures) (kept_v _ _ _ _)
