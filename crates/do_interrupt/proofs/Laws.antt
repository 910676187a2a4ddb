-- What each instruction comes to, from what its parts come to.
use Prim.Native.Nat.{ℕ, suc, ◌-◌, ◌≤◌, ◌<◌}
use mathlib.Core.Path.{◌≡◌, refl, sym, ◌∙◌}
use mathlib.Core.Bool.{Bool, true, false}
use mathlib.Core.List.{List}
use native.Mathlib.Omega.{arith}
use borrow.Author.Tests.{ltb-true, ltb-false, lt-ltb, le-ltb}
use lib.Dec.{ltb}
use lib.IntN.{negsuc}
use lib.ListN.{get_or}
use lib.Signed.{lt_z}
use mir.Syntax.{w16}
use mir.Val.{Fits}
use Rattle.sheet.specs.declared.Bus.{Bus}
use Rattle.sheet.specs.declared.Address.{Address}
use Rattle.sheet.specs.Width.{add16, signed_of}
use Rattle.sheet.specs.Psw.{OV, flag_of}
use Rattle.sheet.specs.Registers.{PSW, file_of, read_reg}
use Rattle.sheet.specs.Handler.{nothing, ◌⊕◌}
use Rattle.sheet.specs.Operand.{pair_at}
use Rattle.sheet.specs.Traps.{trap}
use Rattle.sheet.specs.Interrupts.{brk, trap_if, brkv, outside, chkind}
use Rattle.sheet.specs.Contract.{OnMemory}
use Rattle.sheet.proofs.Lifted.{file_pure, file_flag, memory_seq, memory_free, memory_last, memory_true, memory_false, on_memory}
use Rattle.mach_registers.proofs.Laws.{file_reg}
use Rattle.calc_signed.proofs.ReadBack.{read_pos, read_negsuc}

-- ---- signed numbers in their order

read_neg : (x : ℕ) → 32768 ≤ x → x < 65536 → signed_of 32768 x ≡ negsuc (65535 - x)
read_neg x l h =
    let e : 65536 - suc (65535 - x) ≡ x = omega arith in
    rw e at (read_negsuc 32768 (65535 - x) (omega arith))

agree : (x y c d : ℕ) (t : Bool) → ltb c d ≡ t → (c < d → x < y) → (d ≤ c → y ≤ x) → ltb x y ≡ ltb c d
agree x y c d true e p q = lt-ltb x y (p (ltb-true c d e)) ∙ sym e
agree x y c d false e p q = le-ltb x y (q (ltb-false c d e)) ∙ sym e

-- by the signs of the two
less_by : (s t : Bool) (a b : ℕ) → ltb a 32768 ≡ s → ltb b 32768 ≡ t → a < 65536 → b < 65536 → ltb (add16 a 32768) (add16 b 32768) ≡ lt_z (signed_of 32768 a) (signed_of 32768 b)
less_by true true a b e q h k =
    let l = ltb-true a 32768 e in
    let m = ltb-true b 32768 q in
    rw (read_pos 32768 a l, read_pos 32768 b m) (agree (add16 a 32768) (add16 b 32768) a b (ltb a b) refl (λ z. omega arith) (λ z. omega arith))
less_by true false a b e q h k =
    let l = ltb-true a 32768 e in
    let m = ltb-false b 32768 q in
    rw (read_pos 32768 a l, read_neg b m k) (le-ltb (add16 a 32768) (add16 b 32768) (omega arith))
less_by false true a b e q h k =
    let l = ltb-false a 32768 e in
    let m = ltb-true b 32768 q in
    rw (read_neg a l h, read_pos 32768 b m) (lt-ltb (add16 a 32768) (add16 b 32768) (omega arith))
less_by false false a b e q h k =
    let l = ltb-false a 32768 e in
    let m = ltb-false b 32768 q in
    rw (read_neg a l h, read_neg b m k)
    (agree (add16 a 32768) (add16 b 32768) (65535 - b) (65535 - a) (ltb (65535 - b) (65535 - a)) refl (λ z. omega arith) (λ z. omega arith))

pub less_is : (a b x y : ℕ) → Fits w16 a → Fits w16 b → x ≡ add16 a 32768 → y ≡ add16 b 32768 → ltb x y ≡ lt_z (signed_of 32768 a) (signed_of 32768 b)
less_is a b x y p q e z = rw (e, z) (less_by (ltb a 32768) (ltb b 32768) a b refl refl p.fits q.fits)

-- ---- instructions

module _ (f g ram ram' rom : List ℕ) where
  pub brk_is : (v : ℕ) (n : Bus) → OnMemory Unit (trap v) f ram rom tt g ram' n 8 → OnMemory Bool (brk v) f ram rom true g ram' n 8
  unfolding brk
  brk_is v n h = memory_last _ h file_pure

  pub traps : (b t : Bool) (v : ℕ) (n : Bus) → b ≡ true → OnMemory Bool (brk v) f ram rom t g ram' n 8 → OnMemory Bool (trap_if b v) f ram rom t g ram' n 8
  unfolding trap_if
  traps b t v n e h = memory_true _ _ e h

  pub goes_on : (b : Bool) (v : ℕ) → b ≡ false → OnMemory Bool (trap_if b v) f ram rom false f ram nothing 8
  unfolding trap_if
  goes_on b v e = memory_false _ _ e (on_memory ram rom 8 file_pure)

  pub brkv_is : (b t : Bool) (n : Bus) → b ≡ flag_of (get_or f PSW 0) OV → OnMemory Bool (trap_if b 4) f ram rom t g ram' n 8 → OnMemory Bool brkv f ram rom t g ram' n 8
  unfolding brkv
  brkv_is b t n e h = memory_free _ (file_flag OV e) h

  pub chkind_is : (reg : ℕ) (from : Address) (x y v : ℕ) (b t : Bool) (n m : Bus) → OnMemory (ℕ × ℕ) (pair_at from) f ram rom ((x, y)) f ram n 4 → v ≡ read_reg true (file_of f) reg
      → b ≡ outside v x y → OnMemory Bool (trap_if b 5) f ram rom t g ram' m 8 → OnMemory Bool (chkind reg from) f ram rom t g ram' (n ⊕ m) 12
  unfolding chkind
  chkind_is reg from x y v b t n m p e q k = memory_seq _ {t = 4} {u = 8} p (memory_free _ (file_reg true reg e) (rw (← q) k))
