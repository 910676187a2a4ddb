use native.Mathlib.Omega.{arith}
use Rattle.code_00.proofs.Laws.{at_acc, at_places, at_prefix, at_segment}
use borrow.Author.Rules.{rules}
use Rattle.code_00.proofs.codes00.Goals as goal

pub returns-then-n-lt4 : goal.returns-then-n-lt4
returns-then-n-lt4 c = at_places _ (search rules) (search rules) c.operation_at-op.ensures c.two_places.ensures

pub returns-then-n-lt6 : goal.returns-then-n-lt6
returns-then-n-lt6 c = at_acc _ (search rules) (search rules) (search rules) c.operation_at-op.ensures c.immediate-v.ensures c.known.ensures

pub returns-then-b-lt32 : goal.returns-then-b-lt32
returns-then-b-lt32 c = at_segment _ (search rules) (omega arith) (search rules) c.known-then-b-lt32.ensures

pub returns : goal.returns
returns c = at_prefix _ (search rules) (omega arith) (search rules)
