use Rattle.rom_mnemonic.proofs.Laws.{ds0, ds1, ps, ss}
use borrow.Author.Rules.{rules}
use Rattle.rom_mnemonic.proofs.segment_name.Goals as goal

pub returns-in-0 : goal.returns-in-0
returns-in-0 c = search (ds1, rules)

pub returns-in-1 : goal.returns-in-1
returns-in-1 c = search (ps, rules)

pub returns-in-2 : goal.returns-in-2
returns-in-2 c = search (ss, rules)

pub returns-in_default : goal.returns-in_default
returns-in_default c = search (ds0, rules)
