use Rattle.std.proofs.lemmas.Result.{err_from_is_err_and}
use Rattle.engine.proofs.ExecuteLaws.{carded_is}
use borrow.Author.Rules.{rules}
use Rattle.engine.proofs.execute.card.Goals as goal

pub returns-in_err-a : goal.returns-in_err-a
returns-in_err-a c =
    let p = err_from_is_err_and c.from_residual.result c.from_residual.ensures.1 in
    rw (p.1, p.2) (search (carded_is, c.in_err-a.ensures, rules))

pub returns : goal.returns
returns c = rw c.quiet.ensures (search (carded_is, c.in_ok-a.ensures, rules))
