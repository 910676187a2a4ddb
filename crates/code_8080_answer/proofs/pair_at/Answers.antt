use native.Mathlib.Omega.{arith}
use Rattle.code_8080_answer.proofs.CardLaws.{pair_rest}
use Rattle.sheet.specs.CardPlaces.{card_pair_at}
use mathlib.Core.Path.{refl}
use Rattle.code_8080_answer.proofs.pair_at.Goals as goal

pub returns-in-0 : goal.returns-in-0
unfolding card_pair_at
returns-in-0 c = rw c.in-0.is refl

pub returns-in-1 : goal.returns-in-1
unfolding card_pair_at
returns-in-1 c = rw c.in-1.is refl

pub returns-in-2 : goal.returns-in-2
unfolding card_pair_at
returns-in-2 c = rw c.in-2.is refl

pub returns-in_default : goal.returns-in_default
unfolding card_pair_at
returns-in_default c = pair_rest c.args.n (omega arith)
