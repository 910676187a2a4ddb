use Rattle.hex_put.proofs.Laws.{bytes_within, bytes_long, line_made}
use borrow.Author.Rules.{rules}
use Rattle.hex_put.proofs.line_of.Goals as goal

pub slice_bounds-put_line-end : goal.slice_bounds-put_line-end
slice_bounds-put_line-end c = search (bytes_within, bytes_long, rules)

pub returns : goal.returns
returns c = search (line_made, rules)
