use Rattle.quick_run.proofs.StepLaws.{not_ready, ready}
use borrow.Author.Rules.{rules}
use Rattle.quick_run.proofs.step.next.Goals as goal

pub returns-then-state : goal.returns-then-state
returns-then-state c = (search (not_ready, rules), search rules)

pub returns-then-traced-native : goal.returns-then-traced-native
returns-then-traced-native c = (search (not_ready, rules), search rules)

pub returns : goal.returns
returns c = (search (ready, rules), search rules)
