use Rattle.base_line.proofs.Laws.{puts_line}
use borrow.Author.Rules.{rules}
use Rattle.rom_words.proofs.put_instr.Goals as goal

pub returns : goal.returns
returns c = search (puts_line, rules)
