use Rattle.hex_put.proofs.Laws.{line_added}
use borrow.Author.Rules.{rules}
use Rattle.hex_put.proofs.put_line.Goals as goal

pub returns : goal.returns
returns c = search (line_added, rules)
