use mathlib.Core.Path.{◌≡◌, refl}
use Rattle.sheet.specs.Refusals.{number_in}
use Rattle.sheet.proofs.RefusalLaws.{refusal_some}
use Rattle.hex_read.proofs.Checking.{fits, long}
use borrow.Author.Rules.{rules}
use native.Mathlib.Omega.{arith}
use Rattle.hex_read.proofs.Checking.{passes_small, begun, refused, fits, long, whole, text_behind, passed, end_missing}
use Rattle.hex_read.proofs.check.Goals as goal

pub loop-at-init : goal.loop-at-init
loop-at-init c = search (begun, rules)

pub slice_bounds-check_line-count : goal.slice_bounds-check_line-count
slice_bounds-check_line-count c = omega arith

pub slice_bounds-check_line-start : goal.slice_bounds-check_line-start
slice_bounds-check_line-start c = omega arith

pub slice_bounds-check_line-end : goal.slice_bounds-check_line-end
slice_bounds-check_line-end c = omega arith

pub returns-in-Err : goal.returns-in-Err
returns-in-Err c = search (refused, refusal_some, rules)

pub slice_bounds-pass-count : goal.slice_bounds-pass-count
slice_bounds-pass-count c = omega arith

pub slice_bounds-pass-start : goal.slice_bounds-pass-start
slice_bounds-pass-start c = omega arith

pub slice_bounds-pass-end : goal.slice_bounds-pass-end
slice_bounds-pass-end c = omega arith

pub overflow_add-at : goal.overflow_add-at
overflow_add-at c = let f : number_in c.check_line.result ≡ 0 = rw c.in_default.is refl in omega (arith, fits c.loop-at.invariant c.loop-at-test.true c.check_line.ensures f c.pass-p.ensures)

pub overflow_add-line : goal.overflow_add-line
overflow_add-line c = omega arith

pub returns-then-at-text : goal.returns-then-at-text
returns-then-at-text c = let f : number_in c.check_line.result ≡ 0 = rw c.in_default.is refl in whole c.loop-at.invariant c.loop-at-test.true c.check_line.ensures f c.pass-p.ensures c.if-p-eq1.true c.if-at-text.true

pub returns-then-p-eq1 : goal.returns-then-p-eq1
returns-then-p-eq1 c = let f : number_in c.check_line.result ≡ 0 = rw c.in_default.is refl in text_behind c.loop-at.invariant c.loop-at-test.true c.check_line.ensures f c.pass-p.ensures c.if-p-eq1.true c.if-at-text.false

pub loop-at-smaller : goal.loop-at-smaller
loop-at-smaller c = let f : number_in c.check_line.result ≡ 0 = rw c.in_default.is refl in omega (arith, long c.loop-at.invariant c.loop-at-test.true c.check_line.ensures f c.pass-p.ensures)

pub loop-at-preserved : goal.loop-at-preserved
loop-at-preserved c = let f : number_in c.check_line.result ≡ 0 = rw c.in_default.is refl in passed c.loop-at.invariant c.loop-at-test.true c.check_line.ensures f c.pass-p.ensures c.if-p-eq1.false

pub returns : goal.returns
returns c = search (end_missing, rules)

pub overflow_cast-segment-in-loop-at : goal.overflow_cast-segment-in-loop-at
overflow_cast-segment-in-loop-at c = omega (arith, passes_small c.pass-p.ensures c.loop-at.invariant.small)
