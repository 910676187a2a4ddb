use native.Mathlib.Omega.{arith}
use Rattle.code_decode.proofs.FirstLaws.{from_00, from_40, from_80, from_c0}
use borrow.Author.Rules.{rules}
use Rattle.code_decode.proofs.first.first.Goals as goal

pub returns-then-b-lt64 : goal.returns-then-b-lt64
returns-then-b-lt64 c = from_00 _ (search rules) c.codes00.ensures

pub returns-then-b-lt128 : goal.returns-then-b-lt128
returns-then-b-lt128 c = from_40 _ (search rules) (search rules) c.codes40.ensures

pub returns-then-b-lt144 : goal.returns-then-b-lt144
returns-then-b-lt144 c = from_80 _ (search rules) (omega arith) c.codes80.ensures

pub returns-then-b-lt192 : goal.returns-then-b-lt192
returns-then-b-lt192 c = from_80 _ (omega arith) (search rules) c.codes90.ensures

pub returns : goal.returns
returns c = from_c0 _ (search rules) c.first_high.ensures
