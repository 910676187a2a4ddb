use Rattle.rom_list.proofs.Rebuilding.{handed, small, unlike}
use borrow.Author.Rules.{rules}
use Rattle.rom_list.proofs.rebuild.hand_over.Goals as goal

pub returns-then-not-agrees : goal.returns-then-not-agrees
returns-then-not-agrees c = search (unlike, rules)

pub returns-then-out-image : goal.returns-then-out-image
returns-then-out-image c = search (small, rules)

pub returns : goal.returns
returns c = search (handed, rules)
