use native.Mathlib.Omega.{arith}
use mathlib.Core.Path.{◌≡◌, refl}
use borrow.Author.Rules.{rules}
use Rattle.step_answer.proofs.RunLaws.{continues_none, continues_more}
use Rattle.quick_run.proofs.Laws.{goes_end, goes_stop}
use Rattle.quick_run.proofs.go_on.Goals as goal

pub loop-steps-init : goal.loop-steps-init
loop-steps-init c = (search rules, search rules, search rules, search (continues_none, rules), c.no_readings-memo.ensures)

pub next-r-requires : goal.next-r-requires
next-r-requires c = (c.loop-steps.invariant.4, search rules)

pub turn-requires : goal.turn-requires
turn-requires c = (c.next-r.ensures.0, search rules)

pub returns-in-Err : goal.returns-in-Err
returns-in-Err c = goes_stop c.loop-steps.invariant.3 (search rules) c.in-Err.ensures

pub both-bus-requires : goal.both-bus-requires
both-bus-requires c =
    let l = c.loop-steps.invariant in
    let x = l.3.most in
    let y = c.in-Ok.ensures.most in
    let z = c.loop-steps-test.true in
    omega (arith, l.0)

pub loop-steps-preserved : goal.loop-steps-preserved
loop-steps-preserved c =
    let l = c.loop-steps.invariant in
    (l.0, search rules, search rules, continues_more l.3 refl c.in-Ok.ensures c.both-bus.ensures, c.next-r.ensures.1)

-- the loop ends where the budget is spent
pub returns : goal.returns
returns c =
    let e : c.loop-steps.steps ≡ c.args.budget = omega arith in
    rw e at (goes_end {budget = c.args.budget} c.loop-steps.invariant.3 (search rules) (search rules))
