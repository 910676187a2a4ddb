use borrow.Author.Rules.{rules}
use Rattle.case_bytes.proofs.Laws.{patch_left, patch_made}
use Rattle.case_bytes.proofs.patch.Goals as goal

pub returns-then-patches-at : goal.returns-then-patches-at
returns-then-patches-at c = search (patch_made, rules)

pub returns-else-patches-at : goal.returns-else-patches-at
returns-else-patches-at c = search (patch_left, rules)
