use mathlib.Core.Path.{◌≡◌}
use native.Mathlib.Omega.{arith}
use Rattle.base_at_once.specs.AtOnce.{turns}
use Rattle.base_at_once.proofs.Round.{whole_le, turns_more}
use Rattle.base_at_once.proofs.whole_turns.Goals as goal

pub returns-then-times-eq0 : goal.returns-then-times-eq0
unfolding turns
returns-then-times-eq0 c = let e : c.args.times ≡ 0 = omega arith in (rw e, omega arith)

pub returns-then-times-eq1 : goal.returns-then-times-eq1
unfolding turns
returns-then-times-eq1 c =
    let e : c.args.times ≡ 1 = omega arith in
    (rw e c.turn-once.ensures, rw c.turn-once.ensures (whole_le _ _))

pub turn-requires : goal.turn-requires
turn-requires c = let l = whole_le c.args.bits c.args.x in omega (arith, c.turn-once.ensures)

pub returns : goal.returns
returns c =
    let once = whole_le c.args.bits c.args.x in (
      rw (turns_more c.args.bits c.args.times c.args.x (omega arith), ← c.turn-once.ensures) c.turn.ensures,
      omega (arith, c.turn.ensures, c.turn-once.ensures, whole_le c.args.bits c.turn-once.result),
    )
