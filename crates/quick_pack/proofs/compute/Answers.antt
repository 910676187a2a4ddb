use Rattle.quick_pack.proofs.Laws.{known, shift_one, shift_counted}
use Rattle.sheet.specs.declared.Instr.TheVariants.{Computes}
use borrow.Author.Rules.{rules}
use Rattle.quick_pack.proofs.compute.Goals as goal

pub returns-in-Calculates : goal.returns-in-Calculates
returns-in-Calculates c = search (known Computes, rules)

pub returns-in-Converts : goal.returns-in-Converts
returns-in-Converts c = search (known Computes, rules)

pub returns-in-One : goal.returns-in-One
returns-in-One c = search (shift_one, rules)

pub returns-in-Counted : goal.returns-in-Counted
returns-in-Counted c = search (shift_counted, rules)

pub returns-in-Decimals : goal.returns-in-Decimals
returns-in-Decimals c = search (known Computes, rules)
