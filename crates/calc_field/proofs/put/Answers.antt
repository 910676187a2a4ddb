use Prim.Native.Nat.{◌<◌}
use native.Mathlib.Omega.{arith}
use Rattle.sheet.specs.Fields.{replaced}
use Rattle.calc_field.proofs.FieldLaws.{word_stays}
use Rattle.calc_field.proofs.put.Goals as goal

-- `calc_field::put` meets its contract: no part of the sum exceeds the word that comes out.
pub returns : goal.returns
unfolding replaced
returns c = cc

stays : (c : goal.After-power-top) → (let s = c.args in replaced s.x s.at s.n s.v < 65536)
stays c =
    word_stays c.args.x c.args.at c.args.n c.args.v c.requires (omega arith)

pub overflow_mul-result : goal.overflow_mul-result
overflow_mul-result c = omega (arith, returns c, stays c)

pub overflow_mul-result-2 : goal.overflow_mul-result-2
overflow_mul-result-2 c = omega (arith, returns c, stays c)

pub overflow_add-result : goal.overflow_add-result
overflow_add-result c = omega (arith, returns c, stays c)

pub overflow_add-result-2 : goal.overflow_add-result-2
overflow_add-result-2 c = omega (arith, returns c, stays c)

pub overflow_cast-result-4 : goal.overflow_cast-result-4
overflow_cast-result-4 c = omega (arith, returns c, stays c)
