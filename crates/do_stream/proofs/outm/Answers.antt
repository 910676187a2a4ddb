use Rattle.std.proofs.lemmas.Result.{err_from_is_err_and}
use Rattle.sheet.proofs.RefusalLaws.{refusal_some}
use Rattle.do_stream.proofs.Laws.{outm_done, outm_stop}
use borrow.Author.Rules.{rules}
use Rattle.do_stream.proofs.outm.Goals as goal

pub returns : goal.returns
returns c = search (outm_done, c.in_ok-g.ensures, rules)

pub returns-in_err-g : goal.returns-in_err-g
returns-in_err-g c =
    let p = err_from_is_err_and c.from_residual.result c.from_residual.ensures.1 in
    rw (p.1, p.2) (search (outm_stop, refusal_some c.in_err-g.field-0.0, c.in_err-g.ensures, rules))
