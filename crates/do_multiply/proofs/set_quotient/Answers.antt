use Rattle.do_multiply.proofs.Laws.{high_fits, quotient_of_bytes, quotient_of_words, sum_fits}
use borrow.Author.Rules.{rules}
use Rattle.do_multiply.proofs.set_quotient.Goals as goal

pub overflow_mul-file : goal.overflow_mul-file
overflow_mul-file c = search (high_fits, rules)

pub overflow_add-file : goal.overflow_add-file
overflow_add-file c = search (sum_fits, rules)

pub returns-then-word : goal.returns-then-word
returns-then-word c = search (quotient_of_words, rules)

pub returns-else-word : goal.returns-else-word
returns-else-word c = search (quotient_of_bytes, rules)
