use Rattle.std.proofs.lemmas.Result.{err_from_is_err_and}
use Rattle.engine.proofs.ExecuteLaws.{ported_is}
use borrow.Author.Rules.{rules}
use Rattle.engine.proofs.execute.access.Goals as goal

pub returns-in_err-r : goal.returns-in_err-r
returns-in_err-r c =
    let p = err_from_is_err_and c.from_residual.result c.from_residual.ensures.1 in
    rw (p.1, p.2) (search (ported_is, c.in_err-r.ensures, rules))

pub returns : goal.returns
returns c = rw c.quiet.ensures (search (ported_is, c.in_ok-r.ensures, rules))
