use native.Mathlib.Omega.{arith}
use Rattle.calc_shift_at_once.proofs.Joined.{mod_le, part_low, part_high}
use Rattle.calc_shift_at_once.proofs.part.Goals as goal

pub overflow_cast-result : goal.overflow_cast-result
overflow_cast-result c = omega (arith, mod_le c.args.word)

pub returns-then-y-m : goal.returns-then-y-m
returns-then-y-m c = part_low _ _ _ c.modulus-m.ensures (omega arith)

pub returns : goal.returns
returns c = part_high _ _ _ c.modulus-m.ensures (omega arith)
