use Rattle.do_transfer.proofs.Laws.{load_pointer_is}
use borrow.Author.Rules.{rules}
use Rattle.do_transfer.proofs.load_pointer.Goals as goal

pub returns : goal.returns
returns c = search (load_pointer_is, rules)
