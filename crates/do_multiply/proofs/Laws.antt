-- What each instruction comes to, from what its parts come to.
use Prim.Native.Nat.{ℕ, ◌+◌, ◌*◌, ◌/◌, ◌%◌, ◌<◌}
use mathlib.Core.Path.{◌≡◌, refl, ap}
use mathlib.Core.Bool.{Bool, true, false}
use mathlib.Core.List.{List}
use native.Mathlib.Omega.{arith}
use mir.Syntax.{w16}
use mir.Val.{Fits}
use lib.Dec.{lit≤, eqb}
use lib.IntN.{ℤ}
use lib.ListN.{get_or, set}
use lib.Signed.{quot_z, rem_z}
use Rattle.sheet.specs.declared.Bus.{Bus}
use Rattle.sheet.specs.declared.Place.{Place}
use Rattle.sheet.specs.declared.Product.{Product}
use Rattle.std.specs.Prelude.{Option, None}
use Rattle.sheet.specs.declared.Quotient.{Quotient}
use Rattle.sheet.specs.declared.Multiply.{Multiply}
use Rattle.sheet.specs.Width.{half_of, wrap_of, signed_of, bits32}
use Rattle.sheet.specs.Psw.{flag_of, native_of, pack, keeps, column, settled}
use Rattle.sheet.specs.Registers.{AW, DW, PSW, file_of, read_reg}
use Rattle.sheet.specs.Act.{Act, ◌>>=◌, registers}
use Rattle.sheet.specs.Operand.{reg_value, set_reg, value_at}
use Rattle.sheet.specs.Handler.{nothing, ◌⊕◌}
use Rattle.sheet.specs.Traps.{trap, untrapped}
use Rattle.sheet.specs.Multiply.{all_unknown, bits_of, divided, dividend, mul_by, multiplied, product_column, quoted, set_product, set_quotient, signed_product, signed_quotient, span_of, stands, unsigned_quotient, multiply, gives}
use Rattle.sheet.specs.Contract.{OnFile, OnMemory}
use Rattle.sheet.proofs.Lifted.{file_seq, file_pure, file_registers, file_set, file_flags, memory_seq, memory_free, memory_last, memory_at_most, on_memory}
use Rattle.mach_registers.proofs.Laws.{file_reg}
use Rattle.calc_word.proofs.WidthLaws.{wrap_lt}
use Rattle.calc_divide.proofs.QuotientLaws.{quotient_in, remainder_in, unsigned_quotient_exact}
use Rattle.do_multiply.specs.Within.{Held, Within}

-- ---- products

module _ (f : List ℕ) (x : ℕ) where
  pub product_of_words : (w : Bool) → w ≡ true → OnFile Unit (set_product w x) f tt (set (set f AW (x % 65536)) DW (x / 65536))
  unfolding set_product
  product_of_words w e = rw e (file_seq _ (file_set AW (x % 65536)) (file_set DW (x / 65536)))

  pub product_of_bytes : (w : Bool) → w ≡ false → OnFile Unit (set_product w x) f tt (set f AW (x % 65536))
  unfolding set_product
  product_of_bytes w e = rw e (file_set AW (x % 65536))

pub multiplied_is : (f g : List ℕ) (w : Bool) (p : Product) (x : ℕ) → x ≡ settled keeps (column (product_column p)) (get_or f PSW 0)
    → OnFile Unit (set_product w p.bits) (set f PSW x) tt g → OnFile Unit (multiplied w p) f tt g
unfolding multiplied
multiplied_is f g w p x e h = file_seq _ (file_flags (column (product_column p)) e) h

pub product_is : (product : Bool → ℕ → ℕ → Product) (f g ram rom : List ℕ) (n : Bus) (w : Bool) (by : Place) (b a : ℕ) (p : Product) → OnMemory ℕ (value_at w by) f ram rom b f ram n 2
    → a ≡ read_reg w (file_of f) AW → p ≡ product w a b → OnFile Unit (multiplied w p) f tt g
    → OnMemory Unit (value_at w by >>= (λ y. reg_value w AW >>= (λ x. multiplied w (product w x y)))) f ram rom tt g ram n 2
product_is product f g ram rom n w by b a p h e q k = memory_last _ h (file_seq _ (file_reg w AW e) (rw (← q) k))

pub mul_by_is : (f g ram rom : List ℕ) (n : Bus) (reg : ℕ) (from : Place) (by a : ℕ) (p : Product) (x : ℕ) → OnMemory ℕ (value_at true from) f ram rom a f ram n 2 → p ≡ signed_product true a by
    → x ≡ settled keeps (column (product_column p)) (get_or f PSW 0) → OnFile Unit (set_reg true reg (p.bits % 65536)) (set f PSW x) tt g
    → OnMemory Unit (mul_by reg from by) f ram rom tt g ram n 2
unfolding mul_by
mul_by_is f g ram rom n reg from by a p x h q e k = memory_last _ h (rw (← q) (file_seq _ (file_flags (column (product_column p)) e) k))

-- ---- quotients

pub dividend_of_words : (w : Bool) (f : List ℕ) (x y : ℕ) → w ≡ true → x ≡ get_or f AW 0 → y ≡ get_or f DW 0 → y * 65536 + x ≡ dividend w (file_of f)
unfolding dividend
dividend_of_words w f x y e p q = rw (e, p, q)

pub dividend_of_bytes : (w : Bool) (f : List ℕ) (x : ℕ) → w ≡ false → x ≡ get_or f AW 0 → x ≡ dividend w (file_of f)
unfolding dividend
dividend_of_bytes w f x e p = rw (e, p)

module _ (f : List ℕ) (w : Bool) (q m : ℕ) where
  pub quotient_of_words : w ≡ true → OnFile Unit (set_quotient w q m) f tt (set (set f AW q) DW m)
  unfolding set_quotient
  quotient_of_words e = rw e (file_seq _ (file_set AW q) (file_set DW m))

  pub quotient_of_bytes : w ≡ false → OnFile Unit (set_quotient w q m) f tt (set f AW (m * 256 + q))
  unfolding set_quotient
  quotient_of_bytes e = rw e (file_set AW (m * 256 + q))

-- AH and AL together are a word
module _ (w : Bool) (q m : ℕ) (e : w ≡ false) (h : Held w q m) where
  remainder_byte : m < 256
  remainder_byte = rw e at h.remainder

  quotient_byte : q < 256
  quotient_byte = rw e at h.quotient

  pub high_fits : Fits w16 (m * 256)
  high_fits = record { fits = omega (arith, remainder_byte) }

  pub sum_fits : Fits w16 (m * 256 + q)
  sum_fits = record { fits = omega (arith, remainder_byte, quotient_byte) }

pub both_held : (w : Bool) (d : Option Quotient) (q m : ℕ) → Within w d → d ≡ gives q m → Held w q m
both_held w d q m h e = h.both q m e

no_quotient : (q m : ℕ) → None ≡ gives q m → ⊥
no_quotient q m e =
    let no : ◌≡◌ {A = ℕ} 0 1 = cc in
    omega arith

quoted_held : (w : Bool) (n d : ℤ) (q m : ℕ) → quoted w n d ≡ gives q m → Held w q m
unfolding quoted bits_of
quoted_held w n d q m = go (stands w (quot_z n d)) refl
  where
    go : (t : Bool) → stands w (quot_z n d) ≡ t → quoted w n d ≡ gives q m → Held w q m
    go true e p =
        let o = rw e at p in
        let eq : wrap_of w (bits32 (quot_z n d)) ≡ q = ap quotient_in o in
        let em : wrap_of w (bits32 (rem_z n d)) ≡ m = ap remainder_in o in
        record { quotient = rw (← eq) (wrap_lt w (bits32 (quot_z n d))); remainder = rw (← em) (wrap_lt w (bits32 (rem_z n d))) }
    go false e p = absurd (no_quotient q m (rw e at p))

signed_held : (w : Bool) (a b q m : ℕ) → signed_quotient w a b ≡ gives q m → Held w q m
unfolding signed_quotient
signed_held w a b q m = go (eqb (wrap_of w b) 0) refl
  where
    go : (t : Bool) → eqb (wrap_of w b) 0 ≡ t → signed_quotient w a b ≡ gives q m → Held w q m
    go true e p = absurd (no_quotient q m (rw e at p))
    go false e p = quoted_held w (signed_of (span_of w) a) (signed_of (half_of w) (wrap_of w b)) q m (rw e at p)

unsigned_held : (w : Bool) (a b q m : ℕ) → unsigned_quotient w a b ≡ gives q m → Held w q m
unsigned_held w a b q m p =
    let x = unsigned_quotient_exact w a b q m p in
    record { quotient = x.2; remainder = omega (arith, x.1, wrap_lt w b) }

pub unsigned_within : (w : Bool) (a b : ℕ) (d : Option Quotient) → d ≡ unsigned_quotient w a b → Within w d
unsigned_within w a b d e = rw e (record { both = unsigned_held w a b })

pub signed_within : (w : Bool) (a b : ℕ) (d : Option Quotient) → d ≡ signed_quotient w a b → Within w d
signed_within w a b d e = rw e (record { both = signed_held w a b })

-- undefined flags are kept, and the fixed bits put right
all_kept : (x psw : ℕ) → x ≡ pack (native_of psw) (flag_of psw) → x ≡ settled keeps (column all_unknown) psw
unfolding settled
all_kept x psw e = e

module _ (f g ram rom : List ℕ) (w : Bool) (d : Option Quotient) (x : ℕ) (e : x ≡ pack (native_of (get_or g PSW 0)) (flag_of (get_or g PSW 0))) where
  pub quotient_is : (q m : ℕ) → d ≡ gives q m → OnFile Unit (set_quotient w q m) f tt g → OnMemory Bool (divided w d) f ram rom false (set g PSW x) ram nothing 8
  unfolding divided
  quotient_is q m z h = rw z (on_memory ram rom 8 (file_seq _ h (file_seq _ (file_flags (column all_unknown) (all_kept x (get_or g PSW 0) e)) file_pure)))

  pub trap_is : (ram' : List ℕ) (n : Bus) → d ≡ None → OnMemory Unit (trap 0) f ram rom tt g ram' n 8 → OnMemory Bool (divided w d) f ram rom true (set g PSW x) ram' n 8
  unfolding divided
  trap_is ram' n z h = rw z (memory_last _ h (file_seq _ (file_flags (column all_unknown) (all_kept x (get_or g PSW 0) e)) file_pure))

pub quotient_by : (quotient : Bool → ℕ → ℕ → Option Quotient) (f g ram ram' rom : List ℕ) (w : Bool) (by : Place) (b a : ℕ) (d : Option Quotient) (t : Bool) (n m : Bus) → OnMemory ℕ (value_at w by) f ram rom b f ram n 2
    → a ≡ dividend w (file_of f) → d ≡ quotient w a b → OnMemory Bool (divided w d) f ram rom t g ram' m 8
    → OnMemory Bool (value_at w by >>= (λ y. registers >>= (λ r. divided w (quotient w (dividend w r) y)))) f ram rom t g ram' (n ⊕ m) 10
quotient_by quotient f g ram ram' rom w by b a d t n m h e q k = memory_seq _ {t = 2} {u = 8} h (memory_free _ file_registers (rw (← e, ← q) k))

-- ---- the group

-- a product takes no trap
pub product_known : (i j : Multiply) (p : Act Unit) (f g ram ram' rom : List ℕ) (n : Bus) → i ≡ j → multiply j ≡ untrapped p → OnMemory Unit p f ram rom tt g ram' n 2
    → OnMemory Bool (multiply i) f ram rom false g ram' n 10
unfolding untrapped
product_known i j p f g ram ram' rom n e q h = rw (e, q) (memory_at_most {t = 2} 10 (lit≤ tt) (memory_last _ h file_pure))
