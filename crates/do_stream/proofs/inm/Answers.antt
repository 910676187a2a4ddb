use Rattle.std.proofs.lemmas.Result.{err_from_is_err_and}
use Rattle.sheet.proofs.RefusalLaws.{refusal_some}
use Rattle.do_stream.proofs.Laws.{inm_done, inm_stop}
use borrow.Author.Rules.{rules}
use Rattle.do_stream.proofs.inm.Goals as goal

pub returns : goal.returns
returns c = search (inm_done, c.in_ok-t.ensures, rules)

pub returns-in_err-t : goal.returns-in_err-t
returns-in_err-t c =
    let p = err_from_is_err_and c.from_residual.result c.from_residual.ensures.1 in
    rw (p.1, p.2) (search (inm_stop, refusal_some c.in_err-t.field-0.0, c.in_err-t.ensures, rules))
