-- What each return of the code comes to, over plain values.
use Prim.Native.Nat.{ℕ, suc, ◌+◌, ◌-◌, ◌*◌, ◌≤◌, ◌<◌}
use mathlib.Core.Path.{◌≡◌}
use mathlib.Core.Bool.{true}
use mathlib.Core.List.{List}
use native.Mathlib.Omega.{arith}
use lib.Dec.{lit≤}
use lib.ListN.{get_or, set}
use Rattle.sheet.specs.declared.Bus.{Bus}
use Rattle.sheet.specs.declared.State.{State}
use Rattle.sheet.specs.Width.{sub16}
use Rattle.sheet.specs.Registers.{SP, BP, SS}
use Rattle.sheet.specs.World.{world, with_file}
use Rattle.sheet.specs.Act.{loop}
use Rattle.sheet.specs.Handler.{nothing, ◌⊕◌}
use Rattle.sheet.specs.Traps.{push, pop, pop_into}
use Rattle.sheet.specs.Stack.{frame, frames, prepare, dispose}
use Rattle.sheet.specs.Contract.{OnMemory}
use Rattle.sheet.proofs.Lifted.{file_seq, file_pure, file_registers, file_set, memory_seq, memory_free, memory_last, on_memory}
use Rattle.sheet.proofs.Loop.{Goes, goes_none, goes_more, goes_end}
use Rattle.mach_memory.specs.Accesses.{Loads}
use Rattle.mach_tally.specs.Sums.{Free, Joins}
use Rattle.mach_tally.specs.Bounds.{Fair}

pub pointer_is : (f g ram ram' rom : List ℕ) (bp ss v : ℕ) (n m : Bus) → bp ≡ sub16 (get_or f BP 0) 2 → ss ≡ get_or f SS 0 → Loads true ram rom ss bp v n
    → OnMemory Unit (push v) (set f BP bp) ram rom tt g ram' m 2 → OnMemory Unit (frame 0 tt) f ram rom tt g ram' (n ⊕ m) 4
unfolding frame
pointer_is f g ram ram' rom bp ss v n m e q h k =
    memory_free _ file_registers (rw (← e, ← q) (memory_free _ (file_set BP bp) (memory_seq _ {t = 2} {u = 2} (h.at (set f BP bp)) k)))

-- ---- the loop

-- i of n pointers are copied, from f and ram to g and ram'; the accesses come to c
pub record Copies (n : ℕ) (f ram rom : List ℕ) (i : ℕ) (g ram' : List ℕ) (c : Bus) : Type 0 where
  pub most : c.cycles ≤ 4 * i
  pub fair : Fair c
  pub at : (s : State) (tape log : List ℕ)
      → Goes Unit frame n tt (world (with_file s f) ram rom tape log) i tt (world (with_file s g) ram' rom tape log) c

pub copies_none : (n : ℕ) (f ram rom : List ℕ) (c : Bus) → Free c → Copies n f ram rom 0 f ram c
copies_none n f ram rom c e = rw e.is (record { most = lit≤ tt; fair = lit≤ tt; at = λ s tape log. goes_none Unit frame n tt (world (with_file s f) ram rom tape log) })

module _ (n : ℕ) (f ram rom : List ℕ) (i : ℕ) (g ram₁ : List ℕ) (c : Bus) (p : Copies n f ram rom i g ram₁ c) where
  -- which turn it is makes no difference to a turn
  pub copies_more : (h ram₂ : List ℕ) (b r : Bus) → i < n → OnMemory Unit (frame 0 tt) g ram₁ rom tt h ram₂ b 4 → Joins c b r → Copies n f ram rom (i + 1) h ram₂ r
  unfolding frame
  copies_more h ram₂ b r q k j =
      rw j.is
      (record {
        most = (let m = p.most in let t = k.most in omega arith);
        fair = (let m = p.fair in let t = k.fair in omega arith);
        at = λ s tape log. goes_more Unit frame n tt _ i tt _ _ (p.at s tape log) tt _ b q (k.at s tape log);
      })

  pub copies_end : n ≤ i → i ≤ n → n ≤ 254 → OnMemory Unit (loop frame n 0 tt) f ram rom tt g ram₁ c 1016
  copies_end q r z = record { most = (let m = p.most in omega arith); fair = p.fair; at = λ s tape log. goes_end Unit frame n tt _ i tt _ _ (p.at s tape log) q }

-- ---- the rest

module _ (f g h ram ram₁ ram₂ rom : List ℕ) where
  pub no_frames : (level temp : ℕ) → level ≡ 0 → OnMemory Unit (frames level temp) f ram rom tt f ram nothing 1018
  unfolding frames
  no_frames level temp e = rw e (on_memory ram rom 1018 file_pure)

  pub frames_are : (level temp : ℕ) (n m : Bus) → (level ≡ 0 → ⊥) → OnMemory Unit (loop frame (level - 1) 0 tt) f ram rom tt g ram₁ n 1016
      → OnMemory Unit (push temp) g ram₁ rom tt h ram₂ m 2 → OnMemory Unit (frames level temp) f ram rom tt h ram₂ (n ⊕ m) 1018
  unfolding frames
  frames_are level temp n m e p q =
      let z : level ≡ suc (level - 1) = omega arith in
      rw z (memory_seq _ {t = 1016} {u = 2} p q)

  pub prepare_is : (size level bp temp sp : ℕ) (n m : Bus) → bp ≡ get_or f BP 0 → temp ≡ sub16 (get_or f SP 0) 2 → OnMemory Unit (push bp) f ram rom tt g ram₁ n 2
      → OnMemory Unit (frames level temp) g ram₁ rom tt h ram₂ m 1018 → sp ≡ sub16 (get_or (set h BP temp) SP 0) size
      → OnMemory Unit (prepare size level) f ram rom tt (set (set h BP temp) SP sp) ram₂ (n ⊕ m) 1020
  unfolding prepare
  prepare_is size level bp temp sp n m e q p k z =
      memory_free _ file_registers
      (rw (← e, ← q) (memory_seq _ {t = 2} {u = 1018} p (memory_last _ k (file_seq _ (file_set BP temp) (file_seq _ file_registers (rw (← z) (file_set SP sp)))))))

  pub dispose_is : (bp v : ℕ) (n : Bus) → bp ≡ get_or f BP 0 → OnMemory ℕ pop (set f SP bp) ram rom v g ram n 2 → OnMemory Unit dispose f ram rom tt (set g BP v) ram n 2
  unfolding dispose pop_into
  dispose_is bp v n e p = memory_free _ file_registers (rw (← e) (memory_free _ (file_set SP bp) (memory_last _ p (file_set BP v))))
