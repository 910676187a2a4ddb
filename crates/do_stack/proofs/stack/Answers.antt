use Rattle.sheet.specs.Stack.{stack}
use Rattle.sheet.proofs.Lifted.{memory_known}
use borrow.Author.Rules.{rules}
use Rattle.do_stack.proofs.stack.Goals as goal

pub returns-in-Push : goal.returns-in-Push
unfolding stack
returns-in-Push c = search (memory_known stack, rules)

pub returns-in-PushByte : goal.returns-in-PushByte
unfolding stack
returns-in-PushByte c = search (memory_known stack, rules)

pub returns-in-PushSegment : goal.returns-in-PushSegment
unfolding stack
returns-in-PushSegment c = search (memory_known stack, rules)

pub returns-in-PushPsw : goal.returns-in-PushPsw
unfolding stack
returns-in-PushPsw c = search (memory_known stack, rules)

pub returns-in-PushR : goal.returns-in-PushR
unfolding stack
returns-in-PushR c = search (memory_known stack, rules)

pub returns-in-Pop : goal.returns-in-Pop
unfolding stack
returns-in-Pop c = search (memory_known stack, rules)

pub returns-in-PopSegment : goal.returns-in-PopSegment
unfolding stack
returns-in-PopSegment c = search (memory_known stack, rules)

pub returns-in-PopR : goal.returns-in-PopR
unfolding stack
returns-in-PopR c = search (memory_known stack, rules)

pub returns-in-Prepare : goal.returns-in-Prepare
unfolding stack
returns-in-Prepare c = search (memory_known stack, rules)

pub returns-in-Dispose : goal.returns-in-Dispose
unfolding stack
returns-in-Dispose c = search (memory_known stack, rules)
