use native.Mathlib.Omega.{arith}
use Rattle.base_at_once.proofs.Scaled.{above_least, above_most, down_is, down_lt}
use Rattle.base_at_once.proofs.down.Goals as goal

pub overflow_sub-above : goal.overflow_sub-above
overflow_sub-above c = above_least c.at_most_16-k.result c.args.m (omega arith) (omega arith)

pub overflow_add-result : goal.overflow_add-result
overflow_add-result c = omega (arith, above_most c.at_most_16-k.result c.args.m (omega arith) (omega arith))

pub overflow_cast-result-3 : goal.overflow_cast-result-3
overflow_cast-result-3 c =
    let e = down_is c.args.n c.at_most_16-k.result c.args.m c.args.x c.at_most_16-k.ensures (omega arith) (omega arith) in
    omega (arith, down_lt c.args.n c.args.m c.args.x (omega arith) (omega arith))

pub returns : goal.returns
returns c = down_is c.args.n c.at_most_16-k.result c.args.m c.args.x c.at_most_16-k.ensures (omega arith) (omega arith)
