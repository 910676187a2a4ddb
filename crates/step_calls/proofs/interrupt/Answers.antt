use Rattle.std.proofs.lemmas.Result.{err_from_is_err_and}
use Rattle.sheet.proofs.RefusalLaws.{refusal_some}
use Rattle.step_calls.proofs.Laws.{refused_first, refused_held, taken}
use borrow.Author.Rules.{rules}
use Rattle.step_calls.proofs.interrupt.Goals as goal

pub returns-in_err-check : goal.returns-in_err-check
returns-in_err-check c =
    let p = err_from_is_err_and c.from_residual.result c.from_residual.ensures.1 in
    rw (p.1, p.2) (search (refused_first, refusal_some c.in_err-check.field-0.0, c.in_err-check.ensures, rules))

pub returns-in_err-held_off : goal.returns-in_err-held_off
returns-in_err-held_off c =
    let p = err_from_is_err_and c.from_residual-in_err-held_off.result c.from_residual-in_err-held_off.ensures.1 in
    rw (p.1, p.2) (search (refused_held, refusal_some c.in_err-held_off.field-0.0, c.in_err-held_off.ensures, c.in_ok-check.ensures, rules))

pub returns : goal.returns
returns c = search (taken, c.in_ok-held_off.ensures, c.in_ok-check.ensures, rules)
