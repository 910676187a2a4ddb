-- What each return of the code comes to, over plain values.
use Prim.Native.Nat.{ℕ, zero, suc, ◌+◌, ◌*◌, ◌%◌, ◌≤◌, ◌<◌}
use mathlib.Core.Bool.{true, false}
use mathlib.Core.List.{List, [], ◌∷◌}
use mathlib.Core.Path.{◌≡◌, refl, ap, sym, ◌∙◌}
use native.Mathlib.Nat.{add-le-add}
use native.Mathlib.Omega.{arith}
use lib.ListN.{get_or, set}
use lib.Seq.{get_or-set_other}
use Rattle.sheet.specs.declared.Bus.{Bus}
use Rattle.sheet.specs.declared.State.{State}
use Rattle.sheet.specs.Width.{add16, sub16}
use Rattle.sheet.specs.Psw.{keeps, entering, settled, in_mode}
use Rattle.sheet.specs.Registers.{SP, SS, PS, PC, PSW}
use Rattle.sheet.specs.Memory.{bus_cycles}
use Rattle.sheet.specs.World.{state_of, marks_of, progress_of}
use Rattle.sheet.specs.Act as act
use Rattle.sheet.specs.Act.{peek}
use Rattle.sheet.specs.Handler.{run_by, run, ◌⊕◌}
use Rattle.sheet.specs.Traps.{push, pop, push_psw, push_ps_pc, jump_far, save, vectored, entered, trap}
use Rattle.sheet.specs.Contract.{Seen, stops, ends, exec, OnFile, OnMemory}
use Rattle.sheet.proofs.Rules.{⊕_assoc}
use Rattle.sheet.proofs.Lifted.{file_seq, file_pure, file_registers, file_set, file_psw, file_flags, file_native, memory_seq, memory_free, memory_last, on_marks, file_marks, off_marks, marks_seq, marks_free, marks_last}
use Rattle.calc_word.proofs.WidthLaws.{wrap_id}
use Rattle.mach_memory.specs.Accesses.{Loads, Stores}
use Rattle.mach_tally.specs.Sums.{Costs, Joins}
use Rattle.mach_stack.specs.Vector.{Fetches, Surrounds}

pub push_is : (f ram rom ram' : List ℕ) (v sp ss : ℕ) (n : Bus) → sp ≡ sub16 (get_or f SP 0) 2 → ss ≡ get_or f SS 0 → Stores true ram ss sp v ram' n
    → OnMemory Unit (push v) f ram rom tt (set f SP sp) ram' n 2
unfolding push
push_is f ram rom ram' v sp ss n e q h = memory_free _ file_registers (rw (← e, ← q) (memory_free _ (file_set SP sp) (h.at (set f SP sp) rom)))

pub pop_is : (f ram rom : List ℕ) (v sp ss next : ℕ) (n : Bus) → sp ≡ get_or f SP 0 → ss ≡ get_or f SS 0 → next ≡ add16 sp 2 → Loads true ram rom ss sp v n
    → OnMemory ℕ pop f ram rom v (set f SP next) ram n 2
unfolding pop
pop_is f ram rom v sp ss next n e q z h =
    memory_free _ file_registers (rw (← e, ← q, ← z) (memory_last _ (h.at f) (file_seq _ (file_set SP next) file_pure)))

pub ps_pc_are : (f g h ram ram₁ ram₂ rom : List ℕ) (ps pc : ℕ) (n m : Bus) → ps ≡ get_or f PS 0 → pc ≡ get_or f PC 0 → OnMemory Unit (push ps) f ram rom tt g ram₁ n 2
    → OnMemory Unit (push pc) g ram₁ rom tt h ram₂ m 2 → OnMemory Unit push_ps_pc f ram rom tt h ram₂ (n ⊕ m) 4
unfolding push_ps_pc
ps_pc_are f g h ram ram₁ ram₂ rom ps pc n m e q p k = memory_free _ file_registers (rw (← e, ← q) (memory_seq _ {t = 2} {u = 2} p k))

pushed_psw : (f g ram ram₁ rom : List ℕ) (old : ℕ) (n : Bus) → old ≡ get_or f PSW 0 → old < 65536 → OnMemory Unit (push old) f ram rom tt g ram₁ n 2
    → OnMemory Unit push_psw f ram rom tt g ram₁ n 2
unfolding push_psw
pushed_psw f g ram ram₁ rom old n e l p = memory_free _ (file_psw true) (rw (← e, wrap_id true old l) p)

-- a push leaves PSW as it was
kept_psw : (f g ram ram₁ rom : List ℕ) (v : ℕ) (n : Bus) → OnMemory Unit (push v) f ram rom tt g ram₁ n 2 → get_or g PSW 0 ≡ get_or f PSW 0
unfolding exec run run_by push act.◌>>=◌
kept_psw f g ram ram₁ rom v n h =
    let e : _ ≡ get_or g PSW 0 = ap file_psw_of (h.at nowhere [] []).is in
    sym e ∙ get_or-set_other f SP PSW (sub16 (get_or f SP 0) 2) 0 (omega arith)
  where
    nowhere : State
    nowhere = state_of [] (marks_of false false false) (progress_of 0 0 0)

    file_psw_of : Seen Unit → ℕ
    file_psw_of (stops k) = 0
    file_psw_of (ends a w c) = get_or w.state.file PSW 0

pub save_is : (f g h ram ram₁ ram₂ rom : List ℕ) (old x : ℕ) (n m r : Bus) → old ≡ get_or f PSW 0 → old < 65536 → OnMemory Unit (push old) f ram rom tt g ram₁ n 2
    → OnMemory Unit push_ps_pc (set g PSW x) ram₁ rom tt h ram₂ m 4 → Joins n m r → Surrounds save x f ram rom h ram₂ r 6
unfolding save
save_is f g h ram ram₁ ram₂ rom old x n m r e l p k j = rw j.is record {
  most = add-le-add p.most k.most;
  fair = (let a = p.fair in let b = k.fair in omega arith);
  at = λ change a b c.
      marks_seq _ {t = 2} {u = 4} (on_marks a (pushed_psw f g ram ram₁ rom old n e l p))
      (marks_free _ (c g ram₁ rom (kept_psw f g ram ram₁ rom old n p)) (on_marks b k));
}

-- a word at an even offset takes one cycle
even_word : (o : ℕ) (n : Bus) → Costs true o 0 n → o % 2 ≡ 0 → n.cycles ≤ 1
unfolding bus_cycles
even_word o n e h = rw e.is (omega arith)

loads_even : (ram rom : List ℕ) (o v : ℕ) (n : Bus) → Loads true ram rom 0 o v n → o % 2 ≡ 0 → (f : List ℕ) → OnMemory ℕ (peek true 0 o) f ram rom v f ram n 1
loads_even ram rom o v n h e f = record { most = even_word o n h.cost e; fair = (h.at f).fair; at = (h.at f).at }

pub fetches : (ram rom : List ℕ) (v at pc ps : ℕ) (n m r : Bus) → at ≡ 4 * v → Loads true ram rom 0 at pc n → Loads true ram rom 0 (at + 2) ps m → Joins n m r → Fetches ram rom v pc ps r
fetches ram rom v at pc ps n m r e p q j =
    let a = even_word at n p.cost (omega arith) in
    let b = even_word (at + 2) m q.cost (omega arith) in
    record {
      most = rw j.is (omega arith);
      fair = rw j.is (let x = p.fair in let y = q.fair in omega arith);
      first = n;
      second = m;
      sum = j.is;
      offset = rw (← e) (loads_even ram rom at pc n p (omega arith));
      base = rw (← e) (loads_even ram rom (at + 2) ps m q (omega arith));
    }

pub vectored_is : (f g ram ram' rom : List ℕ) (v x pc ps : ℕ) (n m r : Bus) → Fetches ram rom v pc ps n → Surrounds save x f ram rom g ram' m 6 → Joins n m r
    → Surrounds (λ c. vectored c v) x f ram rom (set (set g PS ps) PC pc) ram' r 8
unfolding vectored jump_far
vectored_is f g ram ram' rom v x pc ps n m r h k j = rw j.is record {
  most = add-le-add h.most k.most;
  fair = (let a = h.fair in let b = k.fair in omega arith);
  at = λ change a b c.
      rw (h.sum, ⊕_assoc h.first h.second m)
      (marks_seq _ {t = 1} {u = 7} (on_marks a (h.offset f))
      (marks_seq _ {t = 1} {u = 6} (on_marks a (h.base f)) (marks_last _ (k.at change a b c) (file_marks (file_seq _ (file_set PS ps) (file_set PC pc))))));
}

-- a second write covers the first, and reads it, but where there is no such place
written_twice : (k : ℕ → ℕ) (d : List ℕ) (i y : ℕ) → set (set d i y) i (k (get_or (set d i y) i 0)) ≡ set d i (k y)
written_twice k [] i y = refl
written_twice k (a ∷ d) zero y = refl
written_twice k (a ∷ d) (suc i) y = ap (λ l. a ∷ l) (written_twice k d i y)

entered_is : (d : List ℕ) (x : ℕ) → x ≡ in_mode true (settled keeps entering (get_or d PSW 0)) → OnFile Unit entered d tt (set d PSW x)
unfolding entered
entered_is d x e =
    rw (e, ← written_twice (in_mode true) d PSW (settled keeps entering (get_or d PSW 0)))
    (file_seq _ (file_flags entering refl) (file_native refl))

pub trap_is : (f g ram ram' rom : List ℕ) (v x : ℕ) (n : Bus) → x ≡ in_mode true (settled keeps entering (get_or f PSW 0)) → Surrounds (λ c. vectored c v) x f ram rom g ram' n 8
    → OnMemory Unit (trap v) f ram rom tt g ram' n 8
unfolding trap entered
trap_is f g ram ram' rom v x n e h = off_marks h.most h.fair (λ a. h.at entered a a (λ d r s q. file_marks (entered_is d x (e ∙ rw (← q)))))
