use Rattle.mach_tally.proofs.Laws.{sums}
use Rattle.do_decimal.proofs.Laws.{link_compares, link_stores}
use borrow.Author.Rules.{rules}
use Rattle.do_decimal.proofs.link.Goals as goal

pub returns-then-stores : goal.returns-then-stores
returns-then-stores c = search (link_stores, sums, rules)

pub returns : goal.returns
returns c = search (link_compares, rules)
