use Rattle.std.proofs.Common.{rules}
use Rattle.console.proofs.TurnLaws.{turn_by_call, turn_by_run}
use Rattle.console.proofs.session.turn.Goals as goal

pub returns-in-Some : goal.returns-in-Some
returns-in-Some c = search (turn_by_call, rules)

pub returns-in-None : goal.returns-in-None
returns-in-None c = search (turn_by_run, rules)
