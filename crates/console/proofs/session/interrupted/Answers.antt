use Rattle.std.proofs.Common.{rules}
use Rattle.console.proofs.TurnLaws.{called_is}
use Rattle.console.proofs.session.interrupted.Goals as goal

pub returns : goal.returns
returns c = search (called_is, rules)
