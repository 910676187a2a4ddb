use Rattle.std.proofs.Common.{rules}
use Rattle.console.proofs.TurnLaws.{plays_none, plays_more}
use Rattle.console.proofs.play.Goals as goal

pub loop-turn-init : goal.loop-turn-init
loop-turn-init c = search (plays_none, rules)

pub loop-turn-preserved : goal.loop-turn-preserved
loop-turn-preserved c = search (plays_more, rules)
