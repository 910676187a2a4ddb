use mathlib.Core.Path.{◌≡◌}
use lib.ListN.{length}
use native.Mathlib.Omega.{arith}
use borrow.Author.Rules.{rules}
use Rattle.hex_put.proofs.Laws.{sum_none, sum_more}
use Rattle.hex_put.proofs.sum_of.Goals as goal

pub loop-b-init : goal.loop-b-init
loop-b-init c = sum_none _

pub loop-b-preserved : goal.loop-b-preserved
loop-b-preserved c = search (sum_more, rules)

pub returns : goal.returns
returns c = let e : c.loop-b.b-index ≡ length c.args.bytes.now = omega arith in rw e at c.loop-b.invariant
