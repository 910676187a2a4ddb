use Rattle.step_calls.proofs.Laws.{masked, unmasked}
use borrow.Author.Rules.{rules}
use Rattle.step_calls.proofs.held_off.Goals as goal

pub returns-then-maskable-ie : goal.returns-then-maskable-ie
returns-then-maskable-ie c = search (masked, rules)

pub returns : goal.returns
returns c = search (unmasked, rules)
