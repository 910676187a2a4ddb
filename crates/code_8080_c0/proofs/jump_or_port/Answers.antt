use native.Mathlib.Omega.{arith}
use Rattle.code_8080_c0.proofs.Laws.{di, ei, inp, jmp, no_cb, out, xchg, xthl}
use borrow.Author.Rules.{rules}
use Rattle.code_8080_c0.proofs.jump_or_port.Goals as goal

pub returns-in-0 : goal.returns-in-0
returns-in-0 c = search (jmp, rules)

pub returns-in-1 : goal.returns-in-1
returns-in-1 c = search (no_cb, rules)

pub returns-in-2 : goal.returns-in-2
returns-in-2 c = search (out, rules)

pub returns-in-3 : goal.returns-in-3
returns-in-3 c = search (inp, rules)

pub returns-in-4 : goal.returns-in-4
returns-in-4 c = search (xthl, rules)

pub returns-in-5 : goal.returns-in-5
returns-in-5 c = search (xchg, rules)

pub returns-in-6 : goal.returns-in-6
returns-in-6 c = search (di, rules)

pub returns-in_default : goal.returns-in_default
returns-in_default c = ei _ (omega arith) (search rules)
