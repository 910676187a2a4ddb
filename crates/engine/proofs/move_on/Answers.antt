use Rattle.std.proofs.lemmas.Result.{err_from_is_err_and}
use Rattle.engine.proofs.Laws.{moves_done, moves_refused}
use borrow.Author.Rules.{rules}
use Rattle.engine.proofs.move_on.Goals as goal

pub returns-in_err-a : goal.returns-in_err-a
returns-in_err-a c =
    let p = err_from_is_err_and c.from_residual.result c.from_residual.ensures.1 in
    rw (p.1, p.2) (search (moves_refused, c.in_err-a.ensures, rules))

pub returns : goal.returns
returns c = search (moves_done, c.in_ok-a.ensures, rules)
