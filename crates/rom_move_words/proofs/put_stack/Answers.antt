use Rattle.base_line.proofs.Laws.{adds_known}
use Rattle.rom_mnemonic.specs.Mnemonics.{stack_text}
use borrow.Author.Rules.{rules}
use Rattle.rom_move_words.proofs.put_stack.Goals as goal

pub returns-in-Push : goal.returns-in-Push
unfolding stack_text
returns-in-Push c = search (adds_known stack_text, rules)

pub returns-in-PushByte : goal.returns-in-PushByte
unfolding stack_text
returns-in-PushByte c = search (adds_known stack_text, rules)

pub returns-in-PushWord : goal.returns-in-PushWord
unfolding stack_text
returns-in-PushWord c = search (adds_known stack_text, rules)

pub returns-in-PushSegment : goal.returns-in-PushSegment
unfolding stack_text
returns-in-PushSegment c = search (adds_known stack_text, rules)

pub returns-in-PushPsw : goal.returns-in-PushPsw
unfolding stack_text
returns-in-PushPsw c = search (adds_known stack_text, rules)

pub returns-in-PushR : goal.returns-in-PushR
unfolding stack_text
returns-in-PushR c = search (adds_known stack_text, rules)

pub returns-in-Pop : goal.returns-in-Pop
unfolding stack_text
returns-in-Pop c = search (adds_known stack_text, rules)

pub returns-in-PopSegment : goal.returns-in-PopSegment
unfolding stack_text
returns-in-PopSegment c = search (adds_known stack_text, rules)

pub returns-in-PopR : goal.returns-in-PopR
unfolding stack_text
returns-in-PopR c = search (adds_known stack_text, rules)

pub returns-in-Prepare : goal.returns-in-Prepare
unfolding stack_text
returns-in-Prepare c = search (adds_known stack_text, rules)

pub returns-in-Dispose : goal.returns-in-Dispose
unfolding stack_text
returns-in-Dispose c = search (adds_known stack_text, rules)
