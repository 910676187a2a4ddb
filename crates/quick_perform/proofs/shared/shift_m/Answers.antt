use Rattle.quick_perform.proofs.SharedLaws.{shift_m_is}
use borrow.Author.Rules.{rules}
use Rattle.quick_perform.proofs.shared.shift_m.Goals as goal

pub returns : goal.returns
returns c = search (shift_m_is, rules)
