use mathlib.Core.Bool.{not}
use mathlib.Core.Path.{refl, ap, ◌∙◌}
use Rattle.mach_ports.proofs.Told.{ok_number, err_number}
use Rattle.engine.proofs.OneLaws.{launches_done, launches_stop}
use borrow.Author.Rules.{rules}
use Rattle.engine.proofs.one.launch.Goals as goal

pub returns-then-is_err : goal.returns-then-is_err
returns-then-is_err c = search (launches_stop, err_number c.perform-p.result _ refl (c.is_err.ensures.negation ∙ ap not c.if-is_err.true), rules)

pub returns-else-is_err : goal.returns-else-is_err
returns-else-is_err c = search (launches_done, ok_number c.perform-p.result _ refl (c.is_err.ensures.negation ∙ ap not c.if-is_err.false), rules)
