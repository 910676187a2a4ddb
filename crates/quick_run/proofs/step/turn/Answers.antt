use Rattle.quick_run.proofs.StepLaws.{tested, turns_quick}
use borrow.Author.Rules.{rules}
use Rattle.quick_run.proofs.step.turn.Goals as goal

pub reach-requires : goal.reach-requires
reach-requires c = (search rules, search rules, search (tested, rules), search rules)

pub perform-bus-requires : goal.perform-bus-requires
perform-bus-requires c = (search (tested, rules), search rules)

pub returns : goal.returns
returns c = search (turns_quick, rules)
