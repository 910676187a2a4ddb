use Rattle.do_field.proofs.Laws.{next_is, same_word}
use borrow.Author.Rules.{rules}
use Rattle.do_field.proofs.next_word.Goals as goal

pub returns-then-sum-ge16 : goal.returns-then-sum-ge16
returns-then-sum-ge16 c = search (next_is, rules)

pub returns-else-sum-ge16 : goal.returns-else-sum-ge16
returns-else-sum-ge16 c = search (same_word, rules)
