-- What each instruction comes to, from what its parts come to.
use Prim.Native.Nat.{ℕ, ◌≤◌}
use mathlib.Core.Path.{◌≡◌, ◌∙◌, sym}
use mathlib.Core.Bool.{Bool, true, false}
use mathlib.Core.List.{List}
use native.Mathlib.Omega.{arith}
use lib.ListN.{get_or, set}
use Rattle.sheet.specs.declared.Bus.{Bus}
use Rattle.sheet.specs.declared.Marks.{Marks}
use Rattle.sheet.specs.Psw.{flag_of, native_of, pack, restored, in_mode, to_native, to_cards, back, stored}
use Rattle.sheet.specs.Registers.{PS, PC, PSW}
use Rattle.sheet.specs.World.{mark_writable, crossed}
use Rattle.sheet.specs.Act.{Act}
use Rattle.sheet.specs.Handler.{◌⊕◌}
use Rattle.sheet.specs.Traps.{pop, vectored}
use Rattle.sheet.specs.Mode.{take_back, pop_psw, pop_return, reti, retem, brkem, calln}
use Rattle.sheet.specs.Contract.{OnMemory, OnMarks}
use Rattle.sheet.proofs.Lifted.{file_seq, file_pure, file_set, file_flags, memory_seq, memory_last, on_marks, file_marks, marks_crossing, marks_free, marks_last}
use Rattle.calc_psw.proofs.Restored.{settled_restored}
use Rattle.mach_stack.specs.Vector.{Surrounds}
use Rattle.do_mode.specs.Marked.{TakesBack}

module _ (f : List ℕ) (m : Marks) where
  -- without the permission MD stays
  pub back_kept : (x y : ℕ) → y ≡ pack (native_of (get_or f PSW 0)) (flag_of x) → m.writable ≡ false → TakesBack x f m (set f PSW y)
  unfolding take_back crossed
  back_kept x y e w = record {
    at = λ ram rom.
        marks_free _ (file_marks (file_flags (restored x) (e ∙ sym (settled_restored x (get_or f PSW 0))))) (marks_crossing (stored (native_of x)) (λ q. rw w));
  }

  pub back_written : (x y z : ℕ) (b : Bool) → y ≡ pack (native_of (get_or f PSW 0)) (flag_of x) → m.writable ≡ true → b ≡ native_of x → z ≡ in_mode b (get_or (set f PSW y) PSW 0)
      → TakesBack x f m (set (set f PSW y) PSW z)
  unfolding take_back crossed
  back_written x y z b e w d k = record {
    at = λ ram rom.
        marks_free _ (file_marks (file_flags (restored x) (e ∙ sym (settled_restored x (get_or f PSW 0))))) (marks_crossing (stored (native_of x)) (λ q. rw (w, k, d)));
  }

module _ (f g h ram rom : List ℕ) (m : Marks) (x : ℕ) (n : Bus) where
  pub pop_psw_is : OnMemory ℕ pop f ram rom x g ram n 2 → TakesBack x g m h → OnMarks Unit pop_psw f ram rom m tt h ram m n 2
  unfolding pop_psw
  pop_psw_is p t = marks_last _ (on_marks m p) (t.at ram rom)

  pub reti_is : OnMemory ℕ pop_return f ram rom x g ram n 6 → TakesBack x g m h → OnMarks Unit reti f ram rom m tt h ram m n 6
  unfolding reti
  reti_is p t = marks_last _ (on_marks m p) (t.at ram rom)

pub return_is : (f g g₁ g₂ ram rom : List ℕ) (pc ps x : ℕ) (n k l : Bus) → OnMemory ℕ pop f ram rom pc g₁ ram n 2 → OnMemory ℕ pop g₁ ram rom ps g₂ ram k 2
    → OnMemory ℕ pop g₂ ram rom x g ram l 2 → OnMemory ℕ pop_return f ram rom x (set (set g PC pc) PS ps) ram (n ⊕ (k ⊕ l)) 6
unfolding pop_return
return_is f g g₁ g₂ ram rom pc ps x n k l p q r =
    memory_seq _ {t = 2} {u = 4} p
    (memory_seq _ {t = 2} {u = 2} q (memory_last _ r (file_seq _ (file_set PC pc) (file_seq _ (file_set PS ps) file_pure))))

pub retem_is : (f g ram rom : List ℕ) (m m' : Marks) (x y z : ℕ) (n : Bus) → OnMemory ℕ pop_return f ram rom x g ram n 6 → y ≡ pack (native_of (get_or g PSW 0)) (flag_of x)
    → z ≡ in_mode true (get_or (set g PSW y) PSW 0) → m' ≡ mark_writable m false → OnMarks Unit retem f ram rom m tt (set (set g PSW y) PSW z) ram m' n 6
unfolding retem crossed
retem_is f g ram rom m m' x y z n p e k w =
    marks_last _ (on_marks m p)
    (marks_free _ (file_marks (file_flags (restored x) (e ∙ sym (settled_restored x (get_or g PSW 0))))) (marks_crossing back (λ q. rw (k, w))))

module _ (f g ram ram' rom : List ℕ) (m m' : Marks) (v x : ℕ) (n : Bus) (s : Surrounds (λ c. vectored c v) x f ram rom g ram' n 8) where
  pub brkem_is : x ≡ in_mode false (get_or f PSW 0) → m' ≡ mark_writable m true → OnMarks Unit (brkem v) f ram rom m tt g ram' m' n 8
  unfolding brkem crossed
  brkem_is e w = s.at _ m m' (λ d r o k. marks_crossing to_cards (λ q. rw (k, e, w)))

  pub calln_is : x ≡ in_mode true (get_or f PSW 0) → OnMarks Unit (calln v) f ram rom m tt g ram' m n 8
  unfolding calln crossed
  calln_is e = s.at _ m m (λ d r o k. marks_crossing to_native (λ q. rw (k, e)))

-- an instruction that is known to be another, under a larger bound
pub marks_known : {I : Type 0} (tree : I → Act Unit) {i j : I} {f ram rom f' ram' : List ℕ} {m m' : Marks} {n : Bus} {t u : ℕ} → i ≡ j → t ≤ u → OnMarks Unit (tree j) f ram rom m tt f' ram' m' n t
    → OnMarks Unit (tree i) f ram rom m tt f' ram' m' n u
marks_known tree e q h = rw e (record { most = (let a = h.most in omega arith); fair = h.fair; at = h.at })
