use Prim.Native.Nat.{◌<◌}
use native.Mathlib.Omega.{arith}
use Rattle.base_at_once.proofs.Round.{rest_lt}
use Rattle.calc_shift_at_once.proofs.Left.{half_pos, fit_is}
use Rattle.calc_shift_at_once.proofs.fit.Goals as goal

pub nonzero_rem-result : goal.nonzero_rem-result
nonzero_rem-result c = rw c.half-h.ensures.0 (half_pos c.args.word)

pub overflow_add-result : goal.overflow_add-result
overflow_add-result c =
    let p : 0 < c.half-h.result = rw c.half-h.ensures.0 (half_pos c.args.word) in
    omega (arith, rest_lt c.half-h.result c.args.x p)

pub returns : goal.returns
returns c = fit_is _ _ _ _ _ c.half-h.ensures.0 c.sign.ensures c.only.ensures.0
