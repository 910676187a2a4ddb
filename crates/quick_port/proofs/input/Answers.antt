use Rattle.std.proofs.lemmas.Result.{err_from_is_err_and}
use Rattle.sheet.proofs.RefusalLaws.{refusal_some}
use Rattle.quick_port.proofs.Laws.{in_done, in_stop}
use borrow.Author.Rules.{rules}
use Rattle.quick_port.proofs.input.Goals as goal

pub returns : goal.returns
returns c = search (in_done, c.in_ok-t.ensures, rules)

pub returns-in_err-t : goal.returns-in_err-t
returns-in_err-t c =
    let p = err_from_is_err_and c.from_residual.result c.from_residual.ensures.1 in
    rw (p.1, p.2) (search (in_stop, refusal_some c.in_err-t.field-0.0, c.in_err-t.ensures, rules))
