use mathlib.Core.Path.{refl}
use native.Mathlib.Omega.{arith}
use Rattle.quick_reading.proofs.Laws.{recalled, remembered}
use Rattle.quick_reading.proofs.recall.Goals as goal

pub returns-then-memo-i : goal.returns-then-memo-i
returns-then-memo-i c = (recalled _ c.from-i.result _ _ (omega (arith, c.from-i.ensures)) c.requires c.if-memo-i.true refl, c.requires)

pub returns : goal.returns
returns c = (c.read-reading.ensures, remembered _ _ c.from-i.result _ (omega (arith, c.from-i.ensures)) c.requires c.read-reading.ensures refl)
