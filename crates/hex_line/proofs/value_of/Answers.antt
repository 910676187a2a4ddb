use native.Mathlib.Omega.{arith}
use Rattle.hex_line.proofs.Laws.{decimal, upper, lower, below_digits, below_upper, below_lower, beyond_digits}
use Rattle.hex_line.proofs.value_of.Goals as goal

pub returns-in-48-to-57 : goal.returns-in-48-to-57
returns-in-48-to-57 c = decimal c.args.c (omega arith) (omega arith)

pub returns-in-65-to-70 : goal.returns-in-65-to-70
returns-in-65-to-70 c = upper c.args.c (omega arith) (omega arith)

pub returns-in-97-to-102 : goal.returns-in-97-to-102
returns-in-97-to-102 c = lower c.args.c (omega arith) (omega arith)

pub returns-in_default : goal.returns-in_default
returns-in_default c = below_digits c.args.c (omega arith)

pub returns-in_default-2 : goal.returns-in_default-2
returns-in_default-2 c = below_upper c.args.c (omega arith) (omega arith)

pub returns-in_default-3 : goal.returns-in_default-3
returns-in_default-3 c = below_lower c.args.c (omega arith) (omega arith)

pub returns-in_default-4 : goal.returns-in_default-4
returns-in_default-4 c = beyond_digits c.args.c (omega arith)
