use Rattle.std.proofs.lemmas.Result.{err_from_is_err_and}
use Rattle.sheet.proofs.RefusalLaws.{refusal_some}
use Rattle.engine.proofs.Laws.{refused_first, steps}
use borrow.Author.Rules.{rules}
use Rattle.engine.proofs.step.Goals as goal

pub returns-in_err-check : goal.returns-in_err-check
returns-in_err-check c =
    let p = err_from_is_err_and c.from_residual.result c.from_residual.ensures.1 in
    rw (p.1, p.2) (search (refused_first, refusal_some c.in_err-check.field-0.0, c.in_err-check.ensures, rules))

pub returns : goal.returns
returns c = search (steps, c.in_ok-check.ensures, rules)
