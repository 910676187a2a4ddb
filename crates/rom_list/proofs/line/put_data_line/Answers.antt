use Rattle.rom_list.proofs.LineLaws.{data_line_added}
use borrow.Author.Rules.{rules}
use Rattle.rom_list.proofs.line.put_data_line.Goals as goal

pub returns : goal.returns
returns c = search (data_line_added, rules)
