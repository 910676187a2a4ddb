use Rattle.quick_perform.proofs.SharedLaws.{shift_r_is}
use borrow.Author.Rules.{rules}
use Rattle.quick_perform.proofs.shared.shift_r.Goals as goal

pub returns : goal.returns
returns c = search (shift_r_is, rules)
