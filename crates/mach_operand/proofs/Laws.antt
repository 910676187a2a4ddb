-- What each return of the code comes to, over plain values.
use Prim.Native.Nat.{ℕ, ◌%◌}
use mathlib.Core.Path.{◌≡◌}
use mathlib.Core.Bool.{Bool, true, false}
use mathlib.Core.List.{List}
use native.Mathlib.Omega.{arith}
use lib.ListN.{get_or}
use Rattle.sheet.specs.declared.Bus.{Bus}
use Rattle.std.specs.Prelude.{Option, Some, None}
use Rattle.sheet.specs.declared.Form.{Form}
use Rattle.sheet.specs.declared.Address.{Address}
use Rattle.sheet.specs.declared.Address.TheVariants.{Formed, Direct}
use Rattle.sheet.specs.declared.Amount.{Amount}
use Rattle.sheet.specs.declared.Amount.TheVariants.{InCl, Given}
use Rattle.sheet.specs.declared.Place.{Place}
use Rattle.sheet.specs.declared.Place.TheVariants.{Register, Memory}
use Rattle.sheet.specs.declared.Source.{Source}
use Rattle.sheet.specs.declared.Source.TheVariants.{Held, Immediate}
use Rattle.sheet.specs.declared.Spot.{Spot}
use Rattle.sheet.specs.declared.Spot.TheVariants.{InRegister, InMemory}
use Rattle.sheet.specs.Width.{add16}
use Rattle.sheet.specs.Registers.{CW, CL, file_of, read_reg}
use Rattle.sheet.specs.Handler.{nothing, ◌⊕◌}
use Rattle.sheet.specs.Operand.{index_of, form_at, form_offset, offset_of, base_of, set_reg, locate, fetch, deposit, value_at, source_value, pair_at, amount_of}
use Rattle.sheet.specs.Contract.{OnFile, OnMemory}
use Rattle.sheet.proofs.Lifted.{file_seq, file_pure, file_registers, memory_seq, memory_free, memory_last, on_memory}
use Rattle.mach_memory.specs.Accesses.{Loads, Stores}
use Rattle.mach_registers.proofs.Laws.{file_reg}

pub index_of_lem : (f : List ℕ) (i : Option ℕ) (n x : ℕ) → i ≡ Some n → x ≡ read_reg true (file_of f) n → x ≡ index_of (file_of f) i
unfolding index_of
index_of_lem f i n x e q = rw (e, q)

pub index_none : (f : List ℕ) (i : Option ℕ) → i ≡ None → 0 ≡ index_of (file_of f) i
unfolding index_of
index_none f i e = rw e

pub form_sum : (f : List ℕ) (n disp b i l x : ℕ) (m : Form) → m ≡ form_at n → b ≡ read_reg true (file_of f) m.base → i ≡ index_of (file_of f) m.index → l ≡ add16 b i → x ≡ add16 l disp
    → x ≡ form_offset (file_of f) (form_at n) disp
unfolding form_offset
form_sum f n disp b i l x m e p q h k = rw (← e, ← p, ← q) (omega arith)

pub offset_formed : (f : List ℕ) (a : Address) (seg n disp x : ℕ) → a ≡ Formed seg n disp → x ≡ form_offset (file_of f) (form_at n) disp → x ≡ offset_of (file_of f) a
unfolding offset_of
offset_formed f a seg n disp x e q = rw (e, q)

pub offset_direct : (f : List ℕ) (a : Address) (seg x : ℕ) → a ≡ Direct seg x → x ≡ offset_of (file_of f) a
unfolding offset_of
offset_direct f a seg x e = rw e

pub in_register : (f : List ℕ) (p : Place) (n : ℕ) → p ≡ Register n → OnFile Spot (locate p) f (InRegister n) f
unfolding locate
in_register f p n e = rw e file_pure

pub in_memory_lem : (f : List ℕ) (p : Place) (a : Address) (g o : ℕ) → p ≡ Memory a → g ≡ base_of (file_of f) a → o ≡ offset_of (file_of f) a → OnFile Spot (locate p) f (InMemory g o) f
unfolding locate
in_memory_lem f p a g o e q h = rw (e, q, h) (file_seq _ file_registers file_pure)

module _ (w : Bool) (s : Spot) (f ram rom : List ℕ) where
  pub fetch_register : (n v : ℕ) → s ≡ InRegister n → v ≡ read_reg w (file_of f) n → OnMemory ℕ (fetch w s) f ram rom v f ram nothing 2
  unfolding fetch
  fetch_register n v e q = rw e (on_memory ram rom 2 (file_reg w n q))

  pub fetch_memory : (g o v : ℕ) (n : Bus) → s ≡ InMemory g o → Loads w ram rom g o v n → OnMemory ℕ (fetch w s) f ram rom v f ram n 2
  unfolding fetch
  fetch_memory g o v n e h = rw e (h.at f)

  pub deposit_register : (n v : ℕ) (g : List ℕ) → s ≡ InRegister n → OnFile Unit (set_reg w n v) f tt g → OnMemory Unit (deposit w s v) f ram rom tt g ram nothing 2
  unfolding deposit
  deposit_register n v g e h = rw e (on_memory ram rom 2 h)

  pub deposit_memory : (g o v : ℕ) (ram' : List ℕ) (n : Bus) → s ≡ InMemory g o → Stores w ram g o v ram' n → OnMemory Unit (deposit w s v) f ram rom tt f ram' n 2
  unfolding deposit
  deposit_memory g o v ram' n e h = rw e (h.at f rom)

pub value_is : (w : Bool) (p : Place) (s : Spot) (f ram rom : List ℕ) (v : ℕ) (n : Bus) → OnFile Spot (locate p) f s f → OnMemory ℕ (fetch w s) f ram rom v f ram n 2
    → OnMemory ℕ (value_at w p) f ram rom v f ram n 2
unfolding value_at
value_is w p s f ram rom v n h k = memory_free _ h k

pub source_held : (w : Bool) (x : Source) (p : Place) (f ram rom : List ℕ) (v : ℕ) (n : Bus) → x ≡ Held p → OnMemory ℕ (value_at w p) f ram rom v f ram n 2 → OnMemory ℕ (source_value w x) f ram rom v f ram n 2
unfolding source_value
source_held w x p f ram rom v n e h = rw e h

pub source_immediate : (w : Bool) (x : Source) (f ram rom : List ℕ) (v : ℕ) → x ≡ Immediate v → OnMemory ℕ (source_value w x) f ram rom v f ram nothing 2
unfolding source_value
source_immediate w x f ram rom v e = rw e (on_memory ram rom 2 file_pure)

pub pair_is : (a : Address) (f ram rom : List ℕ) (g o q x y : ℕ) (n m : Bus) → g ≡ base_of (file_of f) a → o ≡ offset_of (file_of f) a → q ≡ add16 o 2 → Loads true ram rom g o x n → Loads true ram rom g q y m
    → OnMemory (ℕ × ℕ) (pair_at a) f ram rom ((x, y)) f ram (n ⊕ m) 4
unfolding pair_at
pair_is a f ram rom g o q x y n m e h k u v =
    memory_free _ file_registers (rw (← e, ← h, ← k) (memory_seq _ (u.at f) (memory_last _ (v.at f) file_pure)))

pub amount_cl : (a : Amount) (f : List ℕ) (v : ℕ) → a ≡ InCl → v ≡ get_or f CW 0 % 256 → OnFile ℕ (amount_of a) f v f
unfolding amount_of read_reg
amount_cl a f v e q = rw e (file_reg false CL q)

pub amount_given : (a : Amount) (f : List ℕ) (n : ℕ) → a ≡ Given n → OnFile ℕ (amount_of a) f n f
unfolding amount_of
amount_given a f n e = rw e file_pure
