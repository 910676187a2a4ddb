use Rattle.code_90.proofs.Laws.{load_register_lem}
use borrow.Author.Rules.{rules}
use Rattle.code_90.proofs.load_register.Goals as goal

pub returns : goal.returns
returns c = load_register_lem _ (search rules) (search rules) c.immediate-v.ensures c.known.ensures
