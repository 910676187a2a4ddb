use mathlib.Core.Bool.{Bool}
use Prim.Native.Nat.{◌*◌}
use native.Mathlib.Nat.{mod-le, div-mul-le_self}
use native.Mathlib.Omega.{arith}
use Rattle.calc_bits.proofs.BitLaws.{number_15, set_parts, with_bit_lt}
use Rattle.calc_bits.proofs.with_bit.Goals as goal

pub overflow_mul-above : goal.overflow_mul-above
overflow_mul-above c = omega (arith, div-mul-le_self c.args.x (2 * c.weight-d.result))

pub overflow_add-result : goal.overflow_add-result
overflow_add-result c = omega (arith, div-mul-le_self c.args.x (2 * c.weight-d.result))

pub overflow_cast-result-2 : goal.overflow_cast-result-2
overflow_cast-result-2 c = omega (arith, mod-le c.args.x c.weight-d.result)

pub overflow_add-result-2 : goal.overflow_add-result-2
overflow_add-result-2 c =
    omega (arith, mod-le c.args.x c.weight-d.result, div-mul-le_self c.args.x (2 * c.weight-d.result))

pub overflow_cast-result-3 : goal.overflow_cast-result-3
overflow_cast-result-3 c =
    let b : Bool = c.args.b in
    record { fits = rw (set_parts _ _ _ _ b c.weight-d.ensures.0 c.only.ensures.0) (with_bit_lt 15 _ c.args.x b (number_15 _ _) (omega arith)) }

pub returns : goal.returns
returns c = set_parts _ _ _ _ _ c.weight-d.ensures.0 c.only.ensures.0
