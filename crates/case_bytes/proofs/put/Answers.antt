use lib.Seq.{set_out}
use mathlib.Core.Path.{sym}
use borrow.Author.Rules.{rules}
use Rattle.case_bytes.proofs.put.Goals as goal

pub returns-else-index-buffer : goal.returns-else-index-buffer
returns-else-index-buffer c = sym (set_out _ _ _ (search rules))
