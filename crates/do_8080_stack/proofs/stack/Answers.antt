use Rattle.sheet.specs.CardStack.{card_stack}
use Rattle.sheet.proofs.Lifted.{memory_known}
use borrow.Author.Rules.{rules}
use Rattle.do_8080_stack.proofs.stack.Goals as goal

pub returns-in-Push : goal.returns-in-Push
unfolding card_stack
returns-in-Push c = search (memory_known card_stack, rules)

pub returns-in-PushPsw : goal.returns-in-PushPsw
unfolding card_stack
returns-in-PushPsw c = search (memory_known card_stack, rules)

pub returns-in-Pop : goal.returns-in-Pop
unfolding card_stack
returns-in-Pop c = search (memory_known card_stack, rules)

pub returns-in-PopPsw : goal.returns-in-PopPsw
unfolding card_stack
returns-in-PopPsw c = search (memory_known card_stack, rules)

pub returns-in-Xthl : goal.returns-in-Xthl
unfolding card_stack
returns-in-Xthl c = search (memory_known card_stack, rules)
