use Rattle.std.proofs.Common.{rules}
use Rattle.code_prefix.proofs.Laws.{no_more, too_many, more}
use Rattle.code_prefix.proofs.+later.Goals as goal

pub returns-in_default : goal.returns-in_default
returns-in_default t c = no_more _ _ c.byte-byte.ensures c.requires c.in_default.ensures

pub returns-then-i-eq-MOST : goal.returns-then-i-eq-MOST
returns-then-i-eq-MOST t c = too_many _ _ c.byte-byte.ensures c.requires c.in-Some.ensures (search rules)

pub returns : goal.returns
returns t c = more _ _ c.byte-byte.ensures c.requires c.in-Some.ensures (search rules) c.later.ensures
