use Rattle.rom_mnemonic.proofs.Laws.{form_added}
use borrow.Author.Rules.{rules}
use Rattle.rom_mnemonic.proofs.put_form.Goals as goal

pub returns : goal.returns
returns c = search (form_added, rules)
