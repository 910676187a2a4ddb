use native.Mathlib.Omega.{arith}
use Rattle.calc_shift.proofs.Counted.{none, all_places}
use Rattle.calc_shift.proofs.many_places.Goals as goal

pub returns-then-n-eq0 : goal.returns-then-n-eq0
returns-then-n-eq0 c = none _ _ c.args.n _ (omega arith)

pub returns : goal.returns
returns c = all_places _ _ c.args.n _ _ _ (omega arith) c.before_last-before.ensures c.one_place.ensures
