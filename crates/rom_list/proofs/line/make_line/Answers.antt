use Rattle.rom_list.proofs.LineLaws.{put_made}
use borrow.Author.Rules.{rules}
use Rattle.rom_list.proofs.line.make_line.Goals as goal

pub returns : goal.returns
returns c = search (put_made, rules)
