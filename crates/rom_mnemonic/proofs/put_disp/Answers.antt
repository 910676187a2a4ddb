use Rattle.rom_mnemonic.proofs.Laws.{disp_added, no_disp}
use borrow.Author.Rules.{rules}
use Rattle.rom_mnemonic.proofs.put_disp.Goals as goal

pub returns-then-disp-ne0 : goal.returns-then-disp-ne0
returns-then-disp-ne0 c = search (disp_added, rules)

pub returns-else-disp-ne0 : goal.returns-else-disp-ne0
returns-else-disp-ne0 c = search (no_disp, rules)
