use Rattle.quick_pack.proofs.Laws.{known}
use Rattle.sheet.specs.declared.Instr.TheVariants.{Moves}
use borrow.Author.Rules.{rules}
use Rattle.quick_pack.proofs.moving.Goals as goal

pub returns-in-Transfers : goal.returns-in-Transfers
returns-in-Transfers c = search (known Moves, rules)

pub returns-in-Stacks : goal.returns-in-Stacks
returns-in-Stacks c = search (known Moves, rules)

pub returns-in-Branches : goal.returns-in-Branches
returns-in-Branches c = search (known Moves, rules)

pub returns-in-Tests : goal.returns-in-Tests
returns-in-Tests c = search (known Moves, rules)
