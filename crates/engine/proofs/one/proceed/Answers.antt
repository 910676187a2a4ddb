use Rattle.sheet.proofs.RefusalLaws.{refusal_some}
use Rattle.engine.proofs.OneLaws.{proceeds_done, proceeds_stop}
use borrow.Author.Rules.{rules}
use Rattle.engine.proofs.one.proceed.Goals as goal

pub returns-in-Ok : goal.returns-in-Ok
returns-in-Ok c = search (proceeds_done, c.settle.ensures, c.in-Ok.ensures, c.begin-begun.ensures, c.is_traced-traced.ensures, c.begun-marked.ensures, rules)

pub returns-in-Err : goal.returns-in-Err
returns-in-Err c = search (proceeds_stop, refusal_some c.in-Err.refusal, c.in-Err.ensures, rules)
