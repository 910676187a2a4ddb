use Rattle.rom_list.proofs.LineLaws.{head_added}
use borrow.Author.Rules.{rules}
use Rattle.rom_list.proofs.line.put_head.Goals as goal

pub returns : goal.returns
returns c = search (head_added, rules)
