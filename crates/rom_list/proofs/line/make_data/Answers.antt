use Rattle.rom_list.proofs.LineLaws.{byte_made}
use borrow.Author.Rules.{rules}
use Rattle.rom_list.proofs.line.make_data.Goals as goal

pub returns : goal.returns
returns c = search (byte_made, rules)
