-- What each return of the code comes to, over plain values.
use Prim.Native.Nat.{ℕ, ◌+◌, ◌-◌, ◌≤◌, ◌<◌, zero-le}
use mathlib.Core.Bool.{Bool, true, false, not, ◌&&◌, and-true, ◌||◌}
use mathlib.Core.List.{List}
use mathlib.Core.Path.{◌≡◌, refl, sym, ap, ◌∙◌}
use native.Mathlib.Omega.{arith}
use lib.ListN.{length, get_or}
use lib.Dec.{leb}
use borrow.Author.Tests.{le-leb, lt-leb}
use Rattle.sheet.specs.declared.Bus.{Bus}
use Rattle.sheet.specs.declared.Marks.{Marks}
use Rattle.sheet.specs.declared.State.{State}
use Rattle.sheet.specs.Width.{pick}
use Rattle.sheet.specs.Psw.{IE, flag_of, native_of, fixed_of}
use Rattle.sheet.specs.Registers.{PSW}
use Rattle.sheet.specs.Log.{ceiling, rule}
use Rattle.sheet.specs.World.{World, world, psw_of, mark_halted}
use Rattle.sheet.specs.Handler.{Outcome, kept, run, run_by, nothing}
use Rattle.sheet.specs.Traps.{trap}
use Rattle.sheet.specs.Step.{psw_good, places_good, marks_good, fits, sound, refusal, interrupting, interrupt_by, interrupt, interrupt_report}
use Rattle.sheet.specs.Contract.{seen, exec, OnMemory, report, report_of}
use Rattle.sheet.proofs.Rules.{seq_last, ends_halted}
use Rattle.step_answer.specs.Calls.{check_number, held_number, Accepts, Interrupts}
use Rattle.step_answer.proofs.CheckLaws.{passed, checked_passed, checked_refused}

-- the count's type holds it within the ceiling
pub count_good : (s : State) (tape log : List ℕ) → s.progress.count ≤ ceiling rule → (leb s.progress.tape (length tape) && leb s.progress.log (length log)) ≡ places_good s tape log
count_good s tape log h = rw (le-leb s.progress.count (ceiling rule) h, and-true (leb s.progress.log (length log)))

pub psw_good_is : (s : State) (x n : Bool) → x ≡ fixed_of (get_or s.file PSW 0) → n ≡ native_of (get_or s.file PSW 0) → (x && (n || s.marks.writable)) ≡ psw_good s
psw_good_is s x n e q = rw (e, q)

module _ (s : State) (ram rom tape log : List ℕ) where
  -- RAM alone is too long, or both together
  pub ram_long : 1048576 < length ram → 1 ≡ check_number (world s ram rom tape log)
  unfolding fits
  ram_long h = rw (lt-leb (length ram + length rom) 1048576 (omega arith))

  pub both_long : length ram ≤ 1048576 → 1048576 - length ram < length rom → 1 ≡ check_number (world s ram rom tape log)
  unfolding fits
  both_long h k = rw (lt-leb (length ram + length rom) 1048576 (omega arith))

  fit : length ram ≤ 1048576 → length rom ≤ 1048576 - length ram → fits (world s ram rom tape log) ≡ true
  unfolding fits
  fit h k = le-leb (length ram + length rom) 1048576 (omega arith)

  pub check_good : (x p m : Bool) → length ram ≤ 1048576 → length rom ≤ 1048576 - length ram → x ≡ psw_good s → p ≡ places_good s tape log → m ≡ marks_good s.marks → (x && (p && m)) ≡ true → 0 ≡ check_number (world s ram rom tape log)
  unfolding sound
  check_good x p m h k e q g z = rw (fit h k, ← e, ← q, ← g, z)

  pub check_bad : (x p m : Bool) → length ram ≤ 1048576 → length rom ≤ 1048576 - length ram → x ≡ psw_good s → p ≡ places_good s tape log → m ≡ marks_good s.marks → (x && (p && m)) ≡ false → 2 ≡ check_number (world s ram rom tape log)
  unfolding sound
  check_bad x p m h k e q g z = rw (fit h k, ← e, ← q, ← g, z)

pub accepts : (v : ℕ) (s : State) (m : Marks) (g ram ram' rom : List ℕ) (n : Bus) → m ≡ mark_halted s.marks false → OnMemory Unit (trap v) s.file ram rom tt g ram' n 8
    → Accepts v s ram rom 0 (record { file = g; marks = m; progress = s.progress }) ram' n
unfolding interrupting
accepts v s m g ram ram' rom n e h = rw e (record { zero = refl; most = h.most; at = λ tape log. seq_last _ (h.at s tape log) (ends_halted false) })

-- ---- what holds an interrupt off

module _ (m ie : Bool) (s : State) (l : s.marks.loaded ≡ false) (e : ie ≡ flag_of (get_or s.file PSW 0) IE) where
  pub masked : (m && not ie) ≡ true → 7 ≡ held_number m s
  masked h = rw (l, ← e, h)

  pub unmasked : (m && not ie) ≡ false → 0 ≡ held_number m s
  unmasked h = rw (l, ← e, h)

-- ---- an interrupt call

module _ (v : ℕ) (m : Bool) (s : State) (ram rom tape log : List ℕ) (number : ℕ) (e : number ≡ check_number (world s ram rom tape log)) where
  w : World
  w = world s ram rom tape log

  pub refused_first : (number ≡ 0 → ⊥) → Interrupts v m s ram rom tape log number s ram nothing
  unfolding w interrupt_report interrupt interrupt_by
  refused_first z = record { most = zero-le; is = ap (λ (o : Outcome Unit). report_of w (seen o)) (checked_refused w refusal _ number e z) }

  -- what is reported past them
  past : (l i : Bool) → number ≡ 0 → s.marks.loaded ≡ l → (m && not (flag_of (psw_of s) IE)) ≡ i
      → interrupt_report v m w ≡ pick l (report 13 w nothing) (pick i (report 7 w nothing) (report_of w (exec (interrupting v) w)))
  unfolding w interrupt_report interrupt interrupt_by exec run
  past l i z d c =
      ap (λ (o : Outcome Unit). report_of w (seen o)) (checked_passed w refusal _ (passed w (sym e ∙ z)))
      ∙ ap (λ (b : Bool). report_of w (seen (pick b (refusal 13) (pick (m && not (flag_of (psw_of s) IE)) (refusal 7) (run_by kept (interrupting v) w))))) d
      ∙ ap (λ (b : Bool). report_of w (seen (pick l (refusal 13) (pick b (refusal 7) (run_by kept (interrupting v) w))))) c
      ∙ go l i
    where
      go : (l i : Bool)
          → report_of w (seen (pick l (refusal 13) (pick i (refusal 7) (run_by kept (interrupting v) w))))
          ≡ pick l (report 13 w nothing) (pick i (report 7 w nothing) (report_of w (seen (run_by kept (interrupting v) w))))
      go true i = refl
      go false true = refl
      go false false = refl

  held : (k : ℕ) → number ≡ 0 → k ≡ held_number m s → (k ≡ 0 → ⊥) → interrupt_report v m w ≡ report k w nothing
  held k z h d = go s.marks.loaded (m && not (flag_of (psw_of s) IE)) refl refl h
    where
      go : (l i : Bool) → s.marks.loaded ≡ l → (m && not (flag_of (psw_of s) IE)) ≡ i → k ≡ pick l 13 (pick i 7 0) → interrupt_report v m w ≡ report k w nothing
      go true i a b q = past true i z a b ∙ rw q
      go false true a b q = past false true z a b ∙ rw q
      go false false a b q = absurd (d q)

  free : (k : ℕ) → number ≡ 0 → k ≡ held_number m s → k ≡ 0 → interrupt_report v m w ≡ report_of w (exec (interrupting v) w)
  free k z h d = go s.marks.loaded (m && not (flag_of (psw_of s) IE)) refl refl (sym h ∙ d)
    where
      go : (l i : Bool) → s.marks.loaded ≡ l → (m && not (flag_of (psw_of s) IE)) ≡ i → ◌≡◌ {A = ℕ} (pick l 13 (pick i 7 0)) 0 → interrupt_report v m w ≡ report_of w (exec (interrupting v) w)
      go true i a b q = absurd (let y : ◌≡◌ {A = ℕ} 13 0 = q in omega arith)
      go false true a b q = absurd (let y : ◌≡◌ {A = ℕ} 7 0 = q in omega arith)
      go false false a b q = past false false z a b

  pub refused_held : (k : ℕ) → number ≡ 0 → k ≡ held_number m s → (k ≡ 0 → ⊥) → Interrupts v m s ram rom tape log k s ram nothing
  unfolding w
  refused_held k z h d = record { most = zero-le; is = held k z h d }

  pub taken : (k r : ℕ) (s' : State) (ram' : List ℕ) (n : Bus) → number ≡ 0 → k ≡ held_number m s → k ≡ 0 → Accepts v s ram rom r s' ram' n → Interrupts v m s ram rom tape log r s' ram' n
  unfolding w
  taken k r s' ram' n z h d a = record { most = a.most; is = free k z h d ∙ rw ((a.at tape log).is, a.zero) }
