use Rattle.quick_port.specs.Trees.{port_tree, port_trees}
use Rattle.quick_port.proofs.Laws.{at_48, at_49, at_50}
use borrow.Author.Rules.{rules}
use Rattle.quick_port.proofs.access.Goals as goal

pub returns-in-In : goal.returns-in-In
unfolding port_tree port_trees
returns-in-In c = search (at_48, rules)

pub returns-in-Out : goal.returns-in-Out
unfolding port_tree port_trees
returns-in-Out c = search (at_49, rules)

pub returns-in_default : goal.returns-in_default
unfolding port_tree port_trees
returns-in_default c = search (at_50, rules)
