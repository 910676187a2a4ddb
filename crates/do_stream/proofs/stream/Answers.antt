use Rattle.mach_element.specs.Due.{due_tree}
use Rattle.do_stream.proofs.Laws.{due_known, nothing_done}
use borrow.Author.Rules.{rules}
use Rattle.do_stream.proofs.stream.Goals as goal

pub returns-in-Nothing : goal.returns-in-Nothing
unfolding due_tree
returns-in-Nothing c = search (due_known, nothing_done, rules)

pub returns-in-Single : goal.returns-in-Single
unfolding due_tree
returns-in-Single c = search (due_known, rules)

pub returns-in-Element : goal.returns-in-Element
unfolding due_tree
returns-in-Element c = search (due_known, rules)
