use Rattle.do_multiply.proofs.Laws.{dividend_of_bytes, dividend_of_words}
use borrow.Author.Rules.{rules}
use Rattle.do_multiply.proofs.dividend.Goals as goal

pub returns-then-word : goal.returns-then-word
returns-then-word c = search (dividend_of_words, rules)

pub returns : goal.returns
returns c = search (dividend_of_bytes, rules)
