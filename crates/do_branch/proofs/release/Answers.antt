use Rattle.do_branch.proofs.Laws.{release_is}
use borrow.Author.Rules.{rules}
use Rattle.do_branch.proofs.release.Goals as goal

pub returns : goal.returns
returns c = search (release_is, rules)
