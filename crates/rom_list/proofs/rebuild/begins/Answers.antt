use Rattle.rom_list.proofs.Comparing.{compared}
use Rattle.rom_list.proofs.rebuild.begins.Goals as goal

pub returns : goal.returns
returns c = compared _ _ _ c.starts_with.ensures.value
