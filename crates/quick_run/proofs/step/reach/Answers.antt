use Rattle.sheet.proofs.RefusalLaws.{refusal_some}
use Rattle.quick_run.proofs.StepLaws.{turns_reached, turns_refused}
use borrow.Author.Rules.{rules}
use Rattle.quick_run.proofs.step.reach.Goals as goal

pub returns-in-Ok : goal.returns-in-Ok
returns-in-Ok c = search (turns_reached, c.in-Ok.ensures, rules)

pub returns-in-Err : goal.returns-in-Err
returns-in-Err c = search (turns_refused, refusal_some c.in-Err.refusal, c.in-Err.ensures, rules)
