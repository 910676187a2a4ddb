use native.Mathlib.Omega.{arith}
use Rattle.calc_shift_at_once.proofs.Joined.{mod_le}
use Rattle.calc_shift_at_once.proofs.Left.{rolc_room, round_power, rolc_is}
use Rattle.calc_shift_at_once.proofs.rolc.Goals as goal

pub left-requires : goal.left-requires
left-requires c = rolc_room _ c.args.t.cy _ _ _ _ c.width.ensures.0 c.fit.ensures c.join-whole.ensures

pub part-requires : goal.part-requires
part-requires c = omega (arith, mod_le c.args.word, round_power c.args.word c.width.result c.left.result c.width.ensures.0 c.left.ensures.1)

pub returns : goal.returns
returns c = rolc_is _ _ _ _ _ _ _ _ c.width.ensures.0 c.fit.ensures c.join-whole.ensures c.left.ensures.0 c.left.ensures.1 c.part.ensures
