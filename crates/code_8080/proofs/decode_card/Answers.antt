use Rattle.code_8080.proofs.Laws.{card_is}
use borrow.Author.Rules.{rules}
use Rattle.code_8080.proofs.decode_card.Goals as goal

pub returns : goal.returns
returns c = search (card_is, rules)
