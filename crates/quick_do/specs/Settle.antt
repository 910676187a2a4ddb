-- The end of an operation on two operands.
use Rattle.std.specs.Prelude.{ℕ, Bool, List}
use Rattle.sheet.specs.declared.Operation.{Operation}
use Rattle.sheet.specs.declared.Spot.{Spot}
use Rattle.sheet.specs.Act.{Act, affect, ◌>>=◌, ◌>>◌}
use Rattle.sheet.specs.Arithmetic.{operate, conclude}
use Rattle.std.specs.Borrow.{MutBor}
use denote.Triple.Both.{Both}
use Rattle.sheet.specs.Contract.{OnFile}

-- both operands are read
unfoldable pub settle : Operation → Bool → Spot → ℕ → ℕ → Act Unit
settle op w s a b = do
  r ← operate op w a b
  affect r.column
  conclude op w s r.value

-- code that is lent the registers alone
abbrev pub Sets : Act Unit → Both (MutBor (List ℕ)) (MutBor (List ℕ)) → Type 0
Sets p file = OnFile Unit p file.entry.now tt file.exit.now
