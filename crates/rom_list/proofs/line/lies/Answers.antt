use borrow.Author.Rules.{rules}
use Rattle.rom_form.specs.Listing.{whole}
use Rattle.rom_list.proofs.line.lies.Goals as goal

pub returns : goal.returns
unfolding whole
returns c = search rules
