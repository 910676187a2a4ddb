-- What each return of the code comes to, over plain values. Trees in halves are the same trees once their sequences are opened.
use Prim.Native.Nat.{ℕ}
use mathlib.Core.Path.{◌≡◌}
use mathlib.Core.List.{List}
use lib.ListN.{get_or, set}
use Rattle.sheet.specs.declared.Bus.{Bus}
use Rattle.sheet.specs.Registers.{AW, CW, DW, BW, SP, BP, IX, IY}
use Rattle.sheet.specs.Act.{registers, ◌>>=◌}
use Rattle.sheet.specs.Handler.{◌⊕◌}
use Rattle.sheet.specs.Traps.{push, pop, pop_into}
use Rattle.sheet.specs.Stack.{push_r, pop_r}
use Rattle.sheet.specs.Contract.{OnMemory}
use Rattle.sheet.proofs.Lifted.{file_registers, file_set, memory_seq, memory_free, memory_last}
use Rattle.do_push_r.specs.Parts.{push_two, push_four, pop_pointers, pop_general}

module _ (f g h ram ram₁ ram₂ rom : List ℕ) where
  pub two_are : (x y : ℕ) (n m : Bus) → OnMemory Unit (push x) f ram rom tt g ram₁ n 2 → OnMemory Unit (push y) g ram₁ rom tt h ram₂ m 2
      → OnMemory Unit (push_two x y) f ram rom tt h ram₂ (n ⊕ m) 4
  unfolding push_two
  two_are x y n m p q = memory_seq _ {t = 2} {u = 2} p q

  pub four_are : (a b c d : ℕ) (n m : Bus) → OnMemory Unit (push_two a b) f ram rom tt g ram₁ n 4 → OnMemory Unit (push_two c d) g ram₁ rom tt h ram₂ m 4
      → OnMemory Unit (push_four a b c d) f ram rom tt h ram₂ (n ⊕ m) 8
  unfolding push_four
  four_are a b c d n m p q = memory_seq _ {t = 4} {u = 4} p q

  module _ (aw cw dw bw sp bp ix iy : ℕ) (n m : Bus) where
    two_fours : aw ≡ get_or f AW 0 → cw ≡ get_or f CW 0 → dw ≡ get_or f DW 0 → bw ≡ get_or f BW 0 → sp ≡ get_or f SP 0 → bp ≡ get_or f BP 0 → ix ≡ get_or f IX 0 → iy ≡ get_or f IY 0
        → OnMemory Unit (push_four aw cw dw bw) f ram rom tt g ram₁ n 8 → OnMemory Unit (push_four sp bp ix iy) g ram₁ rom tt h ram₂ m 8
        → OnMemory Unit (registers >>= (λ r. push_four (r AW) (r CW) (r DW) (r BW) >>= (λ _. push_four (r SP) (r BP) (r IX) (r IY)))) f ram rom tt h ram₂ (n ⊕ m) 16
    two_fours a b c d e i j k p q = memory_free _ file_registers (rw (← a, ← b, ← c, ← d, ← e, ← i, ← j, ← k) (memory_seq _ {t = 8} {u = 8} p q))

    pub push_r_is : aw ≡ get_or f AW 0 → cw ≡ get_or f CW 0 → dw ≡ get_or f DW 0 → bw ≡ get_or f BW 0 → sp ≡ get_or f SP 0 → bp ≡ get_or f BP 0 → ix ≡ get_or f IX 0 → iy ≡ get_or f IY 0
        → OnMemory Unit (push_four aw cw dw bw) f ram rom tt g ram₁ n 8 → OnMemory Unit (push_four sp bp ix iy) g ram₁ rom tt h ram₂ m 8
        → OnMemory Unit push_r f ram rom tt h ram₂ (n ⊕ m) 16
    unfolding push_r push_four push_two push ◌>>=◌
    push_r_is a b c d e i j k p q = two_fours a b c d e i j k p q

-- ---- POP R

module _ (f g₁ g₂ g₃ g₄ ram rom : List ℕ) (v₁ v₂ v₃ v₄ : ℕ) (n₁ n₂ n₃ n₄ : Bus) where
  pub pointers_are : OnMemory ℕ pop f ram rom v₁ g₁ ram n₁ 2 → OnMemory ℕ pop (set g₁ IY v₁) ram rom v₂ g₂ ram n₂ 2 → OnMemory ℕ pop (set g₂ IX v₂) ram rom v₃ g₃ ram n₃ 2
      → OnMemory ℕ pop (set g₃ BP v₃) ram rom v₄ g₄ ram n₄ 2 → OnMemory ℕ pop_pointers f ram rom v₄ g₄ ram (n₁ ⊕ (n₂ ⊕ (n₃ ⊕ n₄))) 8
  unfolding pop_pointers pop_into
  pointers_are p q r s =
      memory_seq _ {t = 2} {u = 6} (memory_last _ p (file_set IY v₁))
      (memory_seq _ {t = 2} {u = 4} (memory_last _ q (file_set IX v₂)) (memory_seq _ {t = 2} {u = 2} (memory_last _ r (file_set BP v₃)) s))

  pub general_are : OnMemory ℕ pop f ram rom v₁ g₁ ram n₁ 2 → OnMemory ℕ pop (set g₁ BW v₁) ram rom v₂ g₂ ram n₂ 2 → OnMemory ℕ pop (set g₂ DW v₂) ram rom v₃ g₃ ram n₃ 2
      → OnMemory ℕ pop (set g₃ CW v₃) ram rom v₄ g₄ ram n₄ 2 → OnMemory Unit pop_general f ram rom tt (set g₄ AW v₄) ram (n₁ ⊕ (n₂ ⊕ (n₃ ⊕ n₄))) 8
  unfolding pop_general pop_into
  general_are p q r s =
      memory_seq _ {t = 2} {u = 6} (memory_last _ p (file_set BW v₁))
      (memory_seq _ {t = 2} {u = 4} (memory_last _ q (file_set DW v₂))
      (memory_seq _ {t = 2} {u = 2} (memory_last _ r (file_set CW v₃)) (memory_last _ s (file_set AW v₄))))

module _ (f g h ram rom : List ℕ) (v : ℕ) (n m : Bus) where
  pops : OnMemory ℕ pop_pointers f ram rom v g ram n 8 → OnMemory Unit pop_general g ram rom tt h ram m 8 → OnMemory Unit (pop_pointers >>= (λ _. pop_general)) f ram rom tt h ram (n ⊕ m) 16
  pops p q = memory_seq _ {t = 8} {u = 8} p q

  pub pop_r_is : OnMemory ℕ pop_pointers f ram rom v g ram n 8 → OnMemory Unit pop_general g ram rom tt h ram m 8 → OnMemory Unit pop_r f ram rom tt h ram (n ⊕ m) 16
  unfolding pop_r pop_pointers pop_general pop_into pop ◌>>=◌
  pop_r_is p q = pops p q
