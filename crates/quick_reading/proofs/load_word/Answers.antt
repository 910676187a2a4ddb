use Rattle.quick_reading.proofs.LoadLaws.{load_means}
use borrow.Author.Rules.{rules}
use Rattle.quick_reading.proofs.load_word.Goals as goal

pub returns : goal.returns
returns c = search (load_means, rules)
