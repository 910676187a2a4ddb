use Rattle.quick_perform.proofs.RegisterLaws.{ldea_is}
use borrow.Author.Rules.{rules}
use Rattle.quick_perform.proofs.registers.ldea.Goals as goal

pub returns : goal.returns
returns c = search (ldea_is, rules)
