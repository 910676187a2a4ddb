use Rattle.do_stream.proofs.Laws.{kind_known}
use borrow.Author.Rules.{rules}
use Rattle.do_stream.proofs.primitive.Goals as goal

pub returns-in-Inm : goal.returns-in-Inm
returns-in-Inm c = search (kind_known, rules)

pub returns-in-Outm : goal.returns-in-Outm
returns-in-Outm c = search (kind_known, rules)
