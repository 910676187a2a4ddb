use Rattle.quick_perform.proofs.RegisterLaws.{xch_is}
use borrow.Author.Rules.{rules}
use Rattle.quick_perform.proofs.registers.xch.Goals as goal

pub returns : goal.returns
returns c = search (xch_is, rules)
