-- What each instruction comes to, from what its parts come to.
use Prim.Native.Nat.{ℕ, ◌%◌}
use mathlib.Core.Path.{◌≡◌, refl}
use mathlib.Core.Bool.{Bool, true, false}
use mathlib.Core.List.{List}
use lib.Dec.{lit≤}
use lib.ListN.{get_or, set}
use Rattle.sheet.specs.declared.Bus.{Bus}
use Rattle.sheet.specs.declared.Address.{Address}
use Rattle.sheet.specs.declared.Place.{Place}
use Rattle.sheet.specs.declared.Source.{Source}
use Rattle.sheet.specs.declared.Spot.{Spot}
use Rattle.sheet.specs.Width.{wrap_of, add16}
use Rattle.sheet.specs.Psw.{keeps, column, settled}
use Rattle.sheet.specs.Registers.{AW, BW, AH, PSW, file_of, segment, read_reg}
use Rattle.sheet.specs.Act.{◌>>=◌, registers, ◌≔◌, peek, poke}
use Rattle.sheet.specs.Handler.{nothing, ◌⊕◌}
use Rattle.sheet.specs.Operand.{base_of, offset_of, locate, fetch, deposit, value_at, source_value, reg_value, set_reg, pair_at}
use Rattle.sheet.specs.Transfer.{mov, load_acc, store_acc, to_segment, from_segment, load_pointer, ah_from_psw, flags_of_byte, psw_from_ah, ldea, trans, xch}
use Rattle.sheet.specs.Contract.{OnFile, OnMemory}
use Rattle.sheet.proofs.Lifted.{file_seq, file_registers, file_psw, file_flags, memory_seq, memory_free, memory_last, memory_at_most, on_memory}
use Rattle.mach_memory.specs.Accesses.{Loads, Stores}
use Rattle.mach_registers.proofs.Laws.{file_reg}

-- MOV acc,dmem and MOV dmem,acc without the places: the address alone
load_acc_tree : (w : Bool) (from : Address) → load_acc w from ≡ registers >>= (λ r. peek w (base_of r from) (offset_of r from) >>= (λ v. set_reg w AW v))
unfolding load_acc mov source_value value_at locate fetch deposit ◌>>=◌
load_acc_tree w from = refl

store_acc_tree : (w : Bool) (to : Address) → store_acc w to ≡ reg_value w AW >>= (λ v. registers >>= (λ r. poke w (base_of r to) (offset_of r to) v))
unfolding store_acc mov source_value value_at locate fetch deposit reg_value ◌>>=◌
store_acc_tree w to = refl

module _ (f g ram ram' rom : List ℕ) where
  pub mov_is : (w : Bool) (to : Place) (from : Source) (s : Spot) (v : ℕ) (n m : Bus) → OnMemory ℕ (source_value w from) f ram rom v f ram n 2 → OnFile Spot (locate to) f s f
      → OnMemory Unit (deposit w s v) f ram rom tt g ram' m 2 → OnMemory Unit (mov w to from) f ram rom tt g ram' (n ⊕ m) 4
  unfolding mov
  mov_is w to from s v n m p q h = memory_seq _ {t = 2} {u = 2} p (memory_free _ q h)

  pub load_acc_is : (w : Bool) (from : Address) (b o v : ℕ) (n : Bus) → b ≡ base_of (file_of f) from → o ≡ offset_of (file_of f) from → Loads w ram rom b o v n
      → OnFile Unit (set_reg w AW v) f tt g → OnMemory Unit (load_acc w from) f ram rom tt g ram n 4
  load_acc_is w from b o v n e q h k =
      rw (load_acc_tree w from) (memory_at_most {t = 2} 4 (lit≤ tt) (memory_free _ file_registers (rw (← e, ← q) (memory_last _ (h.at f) k))))

  pub store_acc_is : (w : Bool) (to : Address) (b o v : ℕ) (n : Bus) → v ≡ read_reg w (file_of f) AW → b ≡ base_of (file_of f) to → o ≡ offset_of (file_of f) to → Stores w ram b o v ram' n
      → OnMemory Unit (store_acc w to) f ram rom tt f ram' n 4
  store_acc_is w to b o v n z e q h =
      rw (store_acc_tree w to)
      (memory_at_most {t = 2} 4 (lit≤ tt) (memory_free _ (file_reg w AW z) (memory_free _ file_registers (rw (← e, ← q) (h.at f rom)))))

  pub to_segment_is : (seg : ℕ) (from : Place) (v : ℕ) (n : Bus) → OnMemory ℕ (value_at true from) f ram rom v f ram n 2 → OnFile Unit (segment seg ≔ v) f tt g
      → OnMemory Unit (to_segment seg from) f ram rom tt g ram n 4
  unfolding to_segment
  to_segment_is seg from v n h k = memory_at_most {t = 2} 4 (lit≤ tt) (memory_last _ h k)

  pub from_segment_is : (to : Place) (seg : ℕ) (s : Spot) (v : ℕ) (n : Bus) → OnFile Spot (locate to) f s f → v ≡ file_of f (segment seg)
      → OnMemory Unit (deposit true s v) f ram rom tt g ram' n 2 → OnMemory Unit (from_segment to seg) f ram rom tt g ram' n 4
  unfolding from_segment
  from_segment_is to seg s v n h e k = memory_at_most {t = 2} 4 (lit≤ tt) (memory_free _ h (memory_free _ file_registers (rw (← e) k)))

  pub load_pointer_is : (seg reg : ℕ) (from : Address) (x y : ℕ) (h : List ℕ) (n : Bus) → OnMemory (ℕ × ℕ) (pair_at from) f ram rom ((x, y)) f ram n 4
      → OnFile Unit (set_reg true reg x) f tt h → OnFile Unit (segment seg ≔ y) h tt g → OnMemory Unit (load_pointer seg reg from) f ram rom tt g ram n 4
  unfolding load_pointer
  load_pointer_is seg reg from x y h n p q k = memory_last _ p (file_seq _ q k)

  pub ah_from_psw_is : OnFile Unit (set_reg false AH (get_or f PSW 0 % 256)) f tt g → OnMemory Unit ah_from_psw f ram rom tt g ram nothing 4
  unfolding ah_from_psw wrap_of
  ah_from_psw_is h = on_memory ram rom 4 (file_seq _ (file_psw false) h)

  pub psw_from_ah_is : (x y : ℕ) → x ≡ read_reg false (file_of f) AH → y ≡ settled keeps (column (flags_of_byte x)) (get_or f PSW 0) → OnMemory Unit psw_from_ah f ram rom tt (set f PSW y) ram nothing 4
  unfolding psw_from_ah
  psw_from_ah_is x y e q = on_memory ram rom 4 (file_seq _ (file_reg false AH e) (file_flags (column (flags_of_byte x)) q))

  pub ldea_is : (reg : ℕ) (from : Address) (o : ℕ) → o ≡ offset_of (file_of f) from → OnFile Unit (set_reg true reg o) f tt g → OnMemory Unit (ldea reg from) f ram rom tt g ram nothing 4
  unfolding ldea
  ldea_is reg from o e h = on_memory ram rom 4 (file_seq _ file_registers (rw (← e) h))

  pub trans_is : (seg b o v : ℕ) (n : Bus) → b ≡ file_of f (segment seg) → o ≡ add16 (get_or f BW 0) (get_or f AW 0 % 256) → Loads false ram rom b o v n
      → OnFile Unit (set_reg false AW v) f tt g → OnMemory Unit (trans seg) f ram rom tt g ram n 4
  unfolding trans read_reg
  trans_is seg b o v n e q h k = memory_at_most {t = 2} 4 (lit≤ tt) (memory_free _ file_registers (rw (← e, ← q) (memory_last _ (h.at f) k)))

  pub xch_is : (w : Bool) (reg : ℕ) (with : Place) (s : Spot) (x y : ℕ) (h : List ℕ) (n m : Bus) → OnFile Spot (locate with) f s f → OnMemory ℕ (fetch w s) f ram rom x f ram n 2
      → y ≡ read_reg w (file_of f) reg → OnMemory Unit (deposit w s y) f ram rom tt h ram' m 2 → OnFile Unit (set_reg w reg x) h tt g → OnMemory Unit (xch w reg with) f ram rom tt g ram' (n ⊕ m) 4
  unfolding xch
  xch_is w reg with s x y h n m p q e k z = memory_free _ p (memory_seq _ {t = 2} {u = 2} q (memory_free _ (file_reg w reg e) (memory_last _ k z)))
