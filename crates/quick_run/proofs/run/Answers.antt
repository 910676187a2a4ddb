use Rattle.sheet.proofs.RefusalLaws.{refusal_some}
use Rattle.step_answer.proofs.RunLaws.{runs_refused}
use borrow.Author.Rules.{rules}
use Rattle.quick_run.proofs.run.Goals as goal

pub returns-in-Err : goal.returns-in-Err
returns-in-Err c = search (runs_refused, refusal_some c.in-Err.refusal, rules)
