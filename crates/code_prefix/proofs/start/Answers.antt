use Rattle.code_prefix.proofs.Laws.{no_more, more}
use borrow.Author.Rules.{rules}
use Rattle.code_prefix.proofs.start.Goals as goal

pub returns-in-Some : goal.returns-in-Some
returns-in-Some c = more _ _ c.byte-byte.ensures (search rules) c.in-Some.ensures (search rules) c.later.ensures

pub returns-in-None : goal.returns-in-None
returns-in-None c = no_more _ _ c.byte-byte.ensures (search rules) c.in-None.ensures
