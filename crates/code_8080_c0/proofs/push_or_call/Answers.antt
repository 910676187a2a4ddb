use native.Mathlib.Omega.{arith}
use Rattle.code_8080_c0.proofs.Laws.{call, ed, no_3_or_7, push_b, push_d, push_h, push_psw}
use borrow.Author.Rules.{rules}
use Rattle.code_8080_c0.proofs.push_or_call.Goals as goal

pub returns-in-0 : goal.returns-in-0
returns-in-0 c = search (push_b, rules)

pub returns-in-1 : goal.returns-in-1
returns-in-1 c = search (call, rules)

pub returns-in-2 : goal.returns-in-2
returns-in-2 c = search (push_d, rules)

pub returns-in-4 : goal.returns-in-4
returns-in-4 c = search (push_h, rules)

pub returns-in-5 : goal.returns-in-5
returns-in-5 c = search (ed, rules)

pub returns-in-6 : goal.returns-in-6
returns-in-6 c = search (push_psw, rules)

pub returns-in_default : goal.returns-in_default
returns-in_default c = no_3_or_7 _ (omega arith) (search rules) (search rules) (search rules) (search rules)
