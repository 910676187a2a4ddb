use Rattle.calc_psw.proofs.Results.{file_affect}
use borrow.Author.Rules.{rules}
use Rattle.do_block.proofs.compare.Goals as goal

pub returns : goal.returns
returns c = search (file_affect, rules)
