use Rattle.rom_words.proofs.Laws.{named_then}
use borrow.Author.Rules.{rules}
use Rattle.rom_words.proofs.put_blocks.Goals as goal

pub returns : goal.returns
returns c = search (named_then, rules)
