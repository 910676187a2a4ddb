use Rattle.code_mode.proofs.Laws.{card_known, card_unknown, in_cards, in_native}
use borrow.Author.Rules.{rules}
use Rattle.code_mode.proofs.decode.Goals as goal

pub returns-then-native : goal.returns-then-native
returns-then-native c = search (in_native, rules)

pub returns-in_err-d : goal.returns-in_err-d
returns-in_err-d c = in_cards c.if-native.false (card_unknown _ c.in_err-d.ensures c.from_residual.ensures.1)

pub returns : goal.returns
returns c = in_cards c.if-native.false (card_known c.in_ok-d.ensures c.known.ensures)
