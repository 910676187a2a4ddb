use Rattle.sheet.specs.CardArithmetic.{card_calculate}
use Rattle.sheet.proofs.Lifted.{memory_known}
use Rattle.calc_8080.specs.CardOperate.{card_stepped, pair_stepped}
use borrow.Author.Rules.{rules}
use Rattle.do_8080_arith.proofs.calculate.Goals as goal

pub returns-in-Two : goal.returns-in-Two
unfolding card_calculate
returns-in-Two c = search (memory_known card_calculate, rules)

pub returns-in-Inr : goal.returns-in-Inr
unfolding card_calculate card_stepped
returns-in-Inr c = search (memory_known card_calculate, rules)

pub returns-in-Dcr : goal.returns-in-Dcr
unfolding card_calculate card_stepped
returns-in-Dcr c = search (memory_known card_calculate, rules)

pub returns-in-Inx : goal.returns-in-Inx
unfolding card_calculate pair_stepped
returns-in-Inx c = search (memory_known card_calculate, rules)

pub returns-in-Dcx : goal.returns-in-Dcx
unfolding card_calculate pair_stepped
returns-in-Dcx c = search (memory_known card_calculate, rules)

pub returns-in-Dad : goal.returns-in-Dad
unfolding card_calculate
returns-in-Dad c = search (memory_known card_calculate, rules)

pub returns-in-Rotate : goal.returns-in-Rotate
unfolding card_calculate
returns-in-Rotate c = search (memory_known card_calculate, rules)

pub returns-in-Daa : goal.returns-in-Daa
unfolding card_calculate
returns-in-Daa c = search (memory_known card_calculate, rules)

pub returns-in-Cma : goal.returns-in-Cma
unfolding card_calculate
returns-in-Cma c = search (memory_known card_calculate, rules)
