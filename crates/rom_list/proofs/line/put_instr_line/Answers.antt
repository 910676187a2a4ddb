use Rattle.rom_list.proofs.LineLaws.{instr_line_added}
use borrow.Author.Rules.{rules}
use Rattle.rom_list.proofs.line.put_instr_line.Goals as goal

pub returns : goal.returns
returns c = search (instr_line_added, rules)
