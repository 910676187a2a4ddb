-- What each primitive comes to, from what its parts come to; then the group.
use Prim.Native.Nat.{ℕ}
use mathlib.Core.Path.{◌≡◌, refl}
use mathlib.Core.Bool.{Bool, false}
use mathlib.Core.List.{List}
use lib.Dec.{lit≤}
use lib.ListN.{get_or}
use Rattle.sheet.specs.declared.Bus.{Bus}
use Rattle.sheet.specs.declared.Primitive.{Primitive}
use Rattle.sheet.specs.declared.Primitive.TheVariants as sheet
use Rattle.sheet.specs.declared.Repeat.{Repeat}
use Rattle.sheet.specs.Psw.{column}
use Rattle.sheet.specs.Registers.{AW, CW, IX, IY, file_of, read_reg}
use Rattle.sheet.specs.Act.{affect}
use Rattle.sheet.specs.Handler.{◌⊕◌}
use Rattle.sheet.specs.Operand.{set_reg}
use Rattle.sheet.specs.Arithmetic.{difference}
use Rattle.sheet.specs.Block.{step_index, source_element, target_element, set_target, primitive, after_element, block}
use Rattle.sheet.specs.Contract.{OnFile, OnMemory}
use Rattle.sheet.proofs.Lifted.{file_pure, file_seq, on_memory, memory_seq, memory_free, memory_last, memory_at_most}
use Rattle.mach_tally.specs.Sums.{Free}
use Rattle.mach_tally.proofs.Laws.{memory_none}
use Rattle.mach_registers.proofs.Laws.{file_reg}
use Rattle.mach_element.specs.declared.Due.{Due}
use Rattle.mach_element.specs.declared.Due.TheVariants.{Nothing, Single, Element}
use Rattle.mach_element.specs.Due.{due_of, due_tree}
use Rattle.mach_element.proofs.DueLaws.{element_is, due_memory}
use Rattle.do_block.specs.declared.Portless.{Portless}
use Rattle.do_block.specs.declared.Portless.TheVariants.{Movbk, Cmpbk, Cmpm, Ldm, Stm}
use Rattle.do_block.specs.Portless.{primitive_of}

module _ (f g h ram ram' rom : List ℕ) (w : Bool) (seg : ℕ) where
  pub movbk_is : (v : ℕ) (n m : Bus) → OnMemory ℕ (source_element w seg) f ram rom v f ram n 2 → OnMemory Unit (set_target w v) f ram rom tt f ram' m 2
      → OnFile Unit (step_index w IX) f tt g → OnFile Unit (step_index w IY) g tt h → OnMemory Unit (primitive sheet.Movbk w seg) f ram rom tt h ram' (n ⊕ m) 4
  unfolding primitive
  movbk_is v n m p q x y = memory_seq _ {t = 2} {u = 2} p (memory_last _ q (file_seq _ x y))

  pub stm_is : (v : ℕ) (n : Bus) → v ≡ read_reg w (file_of f) AW → OnMemory Unit (set_target w v) f ram rom tt g ram' n 2 → OnFile Unit (step_index w IY) g tt h
      → OnMemory Unit (primitive sheet.Stm w seg) f ram rom tt h ram' n 4
  unfolding primitive
  stm_is v n e p q = memory_at_most {t = 2} 4 (lit≤ tt) (memory_free _ (file_reg w AW e) (memory_last _ p q))

module _ (f g h ram rom : List ℕ) (w : Bool) (seg : ℕ) where
  pub cmpbk_is : (k : List ℕ) (a b : ℕ) (n m : Bus) → OnMemory ℕ (source_element w seg) f ram rom a f ram n 2 → OnMemory ℕ (target_element w) f ram rom b f ram m 2
      → OnFile Unit (affect (difference w a b false).column) f tt g → OnFile Unit (step_index w IX) g tt h → OnFile Unit (step_index w IY) h tt k
      → OnMemory Unit (primitive sheet.Cmpbk w seg) f ram rom tt k ram (n ⊕ m) 4
  unfolding primitive
  cmpbk_is k a b n m p q c x y = memory_seq _ {t = 2} {u = 2} p (memory_last _ q (file_seq _ c (file_seq _ x y)))

  pub cmpm_is : (a b : ℕ) (n : Bus) → a ≡ read_reg w (file_of f) AW → OnMemory ℕ (target_element w) f ram rom b f ram n 2 → OnFile Unit (affect (difference w a b false).column) f tt g
      → OnFile Unit (step_index w IY) g tt h → OnMemory Unit (primitive sheet.Cmpm w seg) f ram rom tt h ram n 4
  unfolding primitive
  cmpm_is a b n e p c y = memory_at_most {t = 2} 4 (lit≤ tt) (memory_free _ (file_reg w AW e) (memory_last _ p (file_seq _ c y)))

  pub ldm_is : (v : ℕ) (n : Bus) → OnMemory ℕ (source_element w seg) f ram rom v f ram n 2 → OnFile Unit (set_reg w AW v) f tt g → OnFile Unit (step_index w IX) g tt h
      → OnMemory Unit (primitive sheet.Ldm w seg) f ram rom tt h ram n 4
  unfolding primitive
  ldm_is v n p q x = memory_at_most {t = 2} 4 (lit≤ tt) (memory_last _ p (file_seq _ q x))

-- ---- the group

module _ (i : Portless) (f g ram ram' rom : List ℕ) (n : Bus) (w : Bool) (seg : ℕ) where
  pub kind_known : (j : Portless) → i ≡ j → OnMemory Unit (primitive (primitive_of j) w seg) f ram rom tt g ram' n 4 → OnMemory Unit (primitive (primitive_of i) w seg) f ram rom tt g ram' n 4
  kind_known j e h = rw e h

-- ---- what is due

single_due : (d : Due) → (d ≡ Nothing → ⊥) → (d ≡ Element → ⊥) → d ≡ Single
single_due Nothing e h = absurd (e refl)
single_due Single e h = refl
single_due Element e h = absurd (h refl)

module _ (k : Primitive) (w : Bool) (seg : ℕ) (q : Repeat) (start : ℕ) (f ram rom : List ℕ) (d : Due) (due : d ≡ due_of (get_or f CW 0) q) where
  known : (e : Due) (g ram' : List ℕ) (n : Bus) → d ≡ e → OnMemory Unit (due_tree e k w seg q start) f ram rom tt g ram' n 4 → OnMemory Unit (block k w seg q start) f ram rom tt g ram' n 4
  known e g ram' n z h = due_memory k w seg q start d due (rw z h)

  pub block_none : (n : Bus) → d ≡ Nothing → Free n → OnMemory Unit (block k w seg q start) f ram rom tt f ram n 4
  unfolding due_tree
  block_none n e z = known Nothing f ram n e (memory_none z (on_memory ram rom 4 file_pure))

  module _ (g ram' : List ℕ) (n : Bus) (p : OnMemory Unit (primitive k w seg) f ram rom tt g ram' n 4) where
    pub block_single : (d ≡ Nothing → ⊥) → (d ≡ Element → ⊥) → OnMemory Unit (block k w seg q start) f ram rom tt g ram' n 4
    unfolding due_tree
    block_single e z = known Single g ram' n (single_due d e z) p

    pub block_element : (i : Primitive) (h : List ℕ) → d ≡ Element → i ≡ k → OnFile Unit (after_element i q start) g tt h → OnMemory Unit (block k w seg q start) f ram rom tt h ram' n 4
    unfolding due_tree
    block_element i h e z x = known Element h ram' n e (rw (element_is k w seg q start) (memory_last _ p (rw z at x)))
