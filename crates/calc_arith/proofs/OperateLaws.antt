-- What the tree of an operation hands on is the result that the code computes with the CY of PSW.
use mathlib.Core.Path.{◌≡◌}
use mathlib.Core.Bool.{Bool}
use Prim.Native.Nat.{ℕ}
use Rattle.sheet.specs.declared.Flagged.{Flagged}
use Rattle.sheet.specs.declared.Operation.{Operation}
use Rattle.sheet.specs.declared.Operation.TheVariants.{Add, Or, Addc, Subc, And, Sub, Xor, Cmp}
use Rattle.sheet.specs.declared.Unary.{Unary}
use Rattle.sheet.specs.Psw.{CY, flag_of}
use Rattle.sheet.specs.Act.{pure}
use Rattle.sheet.specs.World.{World, psw_of}
use Rattle.sheet.specs.Handler.{nothing}
use Rattle.sheet.specs.Contract.{Ends, flagged}
use Rattle.sheet.specs.Arithmetic.{Result, sum, difference, operate, unary}
use Rattle.sheet.proofs.Rules.{ends_pure, seq_flag}
use Rattle.calc_arith.specs.Operate.{operated}

pub operate_ends : (op : Operation) (w : Bool) (a b : ℕ) (u : World) → Ends Result (operate op w a b) u (operated op w a b (flag_of (psw_of u.state) CY)) u nothing
unfolding operate operated
operate_ends Add w a b u = ends_pure
operate_ends Or w a b u = ends_pure
operate_ends Addc w a b u = seq_flag CY (λ c. pure (sum w a b c)) ends_pure
operate_ends Subc w a b u = seq_flag CY (λ c. pure (difference w a b c)) ends_pure
operate_ends And w a b u = ends_pure
operate_ends Sub w a b u = ends_pure
operate_ends Xor w a b u = ends_pure
operate_ends Cmp w a b u = ends_pure
