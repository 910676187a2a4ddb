use Rattle.std.proofs.Common.{rules}
use Rattle.console.proofs.TurnLaws.{continued_is}
use Rattle.console.proofs.session.continued.Goals as goal

pub returns : goal.returns
returns c = search (continued_is, rules)
