use Rattle.base_line.proofs.Laws.{adds_known_at}
use Rattle.rom_mnemonic.specs.Mnemonics.{branch_text}
use borrow.Author.Rules.{rules}
use Rattle.rom_move_words.proofs.put_branch.Goals as goal

pub returns-in-CallNear : goal.returns-in-CallNear
unfolding branch_text
returns-in-CallNear c = search (adds_known_at branch_text, rules)

pub returns-in-CallTo : goal.returns-in-CallTo
unfolding branch_text
returns-in-CallTo c = search (adds_known_at branch_text, rules)

pub returns-in-CallFar : goal.returns-in-CallFar
unfolding branch_text
returns-in-CallFar c = search (adds_known_at branch_text, rules)

pub returns-in-CallFarAt : goal.returns-in-CallFarAt
unfolding branch_text
returns-in-CallFarAt c = search (adds_known_at branch_text, rules)

pub returns-in-Ret : goal.returns-in-Ret
unfolding branch_text
returns-in-Ret c = search (adds_known_at branch_text, rules)

pub returns-in-RetPop : goal.returns-in-RetPop
unfolding branch_text
returns-in-RetPop c = search (adds_known_at branch_text, rules)

pub returns-in-RetFar : goal.returns-in-RetFar
unfolding branch_text
returns-in-RetFar c = search (adds_known_at branch_text, rules)

pub returns-in-RetFarPop : goal.returns-in-RetFarPop
unfolding branch_text
returns-in-RetFarPop c = search (adds_known_at branch_text, rules)

pub returns-in-BrNear : goal.returns-in-BrNear
unfolding branch_text
returns-in-BrNear c = search (adds_known_at branch_text, rules)

pub returns-in-BrShort : goal.returns-in-BrShort
unfolding branch_text
returns-in-BrShort c = search (adds_known_at branch_text, rules)

pub returns-in-BrTo : goal.returns-in-BrTo
unfolding branch_text
returns-in-BrTo c = search (adds_known_at branch_text, rules)

pub returns-in-BrFar : goal.returns-in-BrFar
unfolding branch_text
returns-in-BrFar c = search (adds_known_at branch_text, rules)

pub returns-in-BrFarAt : goal.returns-in-BrFarAt
unfolding branch_text
returns-in-BrFarAt c = search (adds_known_at branch_text, rules)
