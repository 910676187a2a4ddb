use Rattle.quick_perform.proofs.RegisterLaws.{br_far_is}
use borrow.Author.Rules.{rules}
use Rattle.quick_perform.proofs.registers.br_far.Goals as goal

pub returns : goal.returns
returns c = search (br_far_is, rules)
