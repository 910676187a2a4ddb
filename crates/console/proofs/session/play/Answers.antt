use Rattle.std.proofs.Common.{rules}
use Rattle.console.specs.Turns.{none, more}
use Rattle.console.proofs.TurnLaws.{plays_over, plays_spent}
use Rattle.console.proofs.session.play.Goals as goal

pub loop-turn-init : goal.loop-turn-init
loop-turn-init c = search (none, rules)

pub loop-turn-preserved : goal.loop-turn-preserved
loop-turn-preserved c = search (more, rules)

pub returns-then-s : goal.returns-then-s
returns-then-s c = search (plays_over, rules)

pub returns : goal.returns
returns c = search (plays_spent, rules)
