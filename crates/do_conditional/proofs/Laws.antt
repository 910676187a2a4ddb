-- What each instruction comes to, from what its parts come to.
use Prim.Native.Nat.{ℕ, ◌/◌, ◌%◌, ◌≤◌, ◌<◌}
use mathlib.Core.Path.{◌≡◌}
use mathlib.Core.Bool.{Bool, true, false, not, ◌&&◌, ◌||◌, beq}
use mathlib.Core.List.{List}
use native.Mathlib.Omega.{arith}
use lib.Dec.{eqb}
use lib.ListN.{get_or, set}
use Rattle.sheet.specs.Width.{sub16}
use Rattle.sheet.specs.Psw.{Flag, CY, Z, S, OV, flag_of}
use Rattle.sheet.specs.Act.{pure, ◌>>=◌, flag}
use Rattle.sheet.specs.Registers.{CW, PSW}
use Rattle.sheet.specs.Branch.{jump, less_or_equal, conditions, asked, condition, jump_if, branch_if, count_down, dbnz_while, dbnz, bcwz}
use Rattle.sheet.specs.Contract.{OnFile}
use Rattle.sheet.proofs.Lifted.{file_seq, file_pure, file_registers, file_set, file_flag, file_true, file_false}

-- ---- conditions, by n / 2 % 8

from_four : (k : ℕ) → (k ≡ 0 → ⊥) → (k ≡ 1 → ⊥) → (k ≡ 2 → ⊥) → (k ≡ 3 → ⊥) → 4 ≤ k
from_four k a b c d = omega arith

seven : (k : ℕ) → k < 8 → 4 ≤ k → (k ≡ 4 → ⊥) → (k ≡ 5 → ⊥) → (k ≡ 6 → ⊥) → k ≡ 7
seven k l m a b c = omega arith

below_eight : (n : ℕ) → n / 2 % 8 < 8
below_eight n = omega arith

last_left : (n : ℕ) → (n / 2 % 8 ≡ 0 → ⊥) → (n / 2 % 8 ≡ 1 → ⊥) → (n / 2 % 8 ≡ 2 → ⊥) → (n / 2 % 8 ≡ 3 → ⊥) → (n / 2 % 8 ≡ 4 → ⊥) → (n / 2 % 8 ≡ 5 → ⊥) → (n / 2 % 8 ≡ 6 → ⊥) → n / 2 % 8 ≡ 7
last_left n a b c d e g h = seven (n / 2 % 8) (below_eight n) (from_four (n / 2 % 8) a b c d) e g h

module _ (f : List ℕ) (n : ℕ) where
  pub asks : (k : ℕ) (b : Bool) → n / 2 % 8 ≡ k → OnFile Bool (get_or conditions k (pure false)) f b f → OnFile Bool (asked n) f b f
  unfolding asked
  asks k b e h = rw e h

  two_flags : (p q : Flag) (g : Bool → Bool → Bool) {a b : Bool} → a ≡ flag_of (get_or f PSW 0) p → b ≡ flag_of (get_or f PSW 0) q
      → OnFile Bool (flag p >>= (λ x. flag q >>= (λ y. pure (g x y)))) f (g a b) f
  two_flags p q g e h = file_seq _ (file_flag p e) (file_seq _ (file_flag q h) file_pure)

  pub asks_3 : (cy z : Bool) → n / 2 % 8 ≡ 3 → cy ≡ flag_of (get_or f PSW 0) CY → z ≡ flag_of (get_or f PSW 0) Z → OnFile Bool (asked n) f (cy || z) f
  asks_3 cy z e p q = asks 3 _ e (two_flags CY Z ◌||◌ p q)

  pub asks_6 : (s v : Bool) → n / 2 % 8 ≡ 6 → s ≡ flag_of (get_or f PSW 0) S → v ≡ flag_of (get_or f PSW 0) OV → OnFile Bool (asked n) f (not (beq s v)) f
  asks_6 s v e p q = asks 6 _ e (two_flags S OV (λ a b. not (beq a b)) p q)

  pub asks_7 : (s v z : Bool) → (n / 2 % 8 ≡ 0 → ⊥) → (n / 2 % 8 ≡ 1 → ⊥) → (n / 2 % 8 ≡ 2 → ⊥) → (n / 2 % 8 ≡ 3 → ⊥) → (n / 2 % 8 ≡ 4 → ⊥) → (n / 2 % 8 ≡ 5 → ⊥) → (n / 2 % 8 ≡ 6 → ⊥)
      → s ≡ flag_of (get_or f PSW 0) S → v ≡ flag_of (get_or f PSW 0) OV → z ≡ flag_of (get_or f PSW 0) Z → OnFile Bool (asked n) f (not (beq s v) || z) f
  unfolding less_or_equal
  asks_7 s v z a b c d e g h p q k =
      asks 7 _ (last_left n a b c d e g h) (file_seq _ (two_flags S OV (λ x y. not (beq x y)) p q) (file_seq _ (file_flag Z k) file_pure))

  pub condition_is : (b : Bool) → OnFile Bool (asked n) f b f → OnFile Bool (condition n) f (not (beq b (eqb (n % 2) 1))) f
  unfolding condition
  condition_is b p = file_seq _ p file_pure

-- ---- instructions

module _ (f g h : List ℕ) (disp : ℕ) where
  pub jumps : (b : Bool) → b ≡ true → OnFile Unit (jump disp) f tt g → OnFile Unit (jump_if b disp) f tt g
  unfolding jump_if
  jumps b e p = file_true _ _ e p

  pub stays : (b : Bool) → b ≡ false → OnFile Unit (jump_if b disp) f tt f
  unfolding jump_if
  stays b e = file_false _ _ e file_pure

  pub branch_if_is : (n : ℕ) (b : Bool) → OnFile Bool (condition n) f b f → OnFile Unit (jump_if b disp) f tt g → OnFile Unit (branch_if n disp) f tt g
  unfolding branch_if
  branch_if_is n b p q = file_seq _ p q

  pub counts : (x : ℕ) → x ≡ sub16 (get_or f CW 0) 1 → OnFile Bool count_down f (not (eqb x 0)) (set f CW x)
  unfolding count_down
  counts x e = file_seq _ file_registers (rw (← e) (file_seq _ (file_set CW x) file_pure))

  pub dbnz_while_is : (wanted b z : Bool) → OnFile Bool count_down f b h → z ≡ flag_of (get_or h PSW 0) Z → OnFile Unit (jump_if (b && beq z wanted) disp) h tt g
      → OnFile Unit (dbnz_while wanted disp) f tt g
  unfolding dbnz_while
  dbnz_while_is wanted b z p e q = file_seq _ p (file_seq _ (file_flag Z e) q)

  pub dbnz_is : (b : Bool) → OnFile Bool count_down f b h → OnFile Unit (jump_if b disp) h tt g → OnFile Unit (dbnz disp) f tt g
  unfolding dbnz
  dbnz_is b p q = file_seq _ p q

  pub bcwz_is : OnFile Unit (jump_if (eqb (get_or f CW 0) 0) disp) f tt g → OnFile Unit (bcwz disp) f tt g
  unfolding bcwz
  bcwz_is q = file_seq _ file_registers q
