use Rattle.rom_mnemonic.proofs.Laws.{target_back, target_on}
use borrow.Author.Rules.{rules}
use Rattle.rom_mnemonic.proofs.target.Goals as goal

pub returns-then-disp-lt32768 : goal.returns-then-disp-lt32768
returns-then-disp-lt32768 c = search (target_on, rules)

pub returns : goal.returns
returns c = search (target_back, rules)
