-- What each return of a step's code comes to, over plain values.
use Prim.Native.Nat.{ℕ, zero-le}
use mathlib.Core.Bool.{Bool, true, false, true≢false}
use Rattle.std.specs.Prelude.{Result, Ok, Err, is_ok}
use mathlib.Core.List.{List}
use mathlib.Core.Path.{◌≡◌, refl, sym, ap, ◌∙◌}
use lib.Dec.{eqb}
use lib.ListN.{get_or}
use borrow.Author.Tests.{eqb-true, eqb-false, ne_eqb}
use Rattle.sheet.specs.declared.Bus.{Bus}
use Rattle.sheet.specs.declared.State.{State}
use Rattle.sheet.specs.declared.Instr.{Instr}
use Rattle.sheet.specs.declared.Marks.{Marks}
use Rattle.sheet.specs.declared.Progress.{Progress}
use Rattle.sheet.specs.declared.Refusal.{Refusal}
use Rattle.sheet.specs.Refusals.{refusal_number, number_in}
use Rattle.sheet.proofs.RefusalLaws.{refusal_some}
use Rattle.sheet.specs.Width.{pick}
use Rattle.sheet.specs.Psw.{native_of}
use Rattle.sheet.specs.Registers.{PS, PC, PSW}
use Rattle.sheet.specs.World.{World, world, state_of, psw_of}
use Rattle.sheet.specs.Handler.{Outcome, run, kept, run_by, nothing}
use Rattle.sheet.specs.Reading.{Reading}
use Rattle.sheet.specs.FirstByte.{instruction}
use Rattle.sheet.specs.CardCodes.{card_instruction}
use Rattle.sheet.specs.Contract.{Refuses, stops, exec, seen, report, report_of}
use Rattle.sheet.specs.Step.{refusal, source, code_byte, starting, stepping, decoded, awake, step_by, step, step_report, instruction_in}
use Rattle.code_answer.specs.Answer.{Answer, known_as, Decodes}
use Rattle.code_answer.proofs.DecodesLaws.{known_reads, unknown_refuses}
use Rattle.mach_tally.proofs.Bounds.{within_none}
use Rattle.step_answer.specs.Calls.{check_number}
use Rattle.step_answer.proofs.CheckLaws.{passed, checked_passed, checked_refused, awake_known}
use Rattle.engine.specs.Proceeds.{Proceeds}
use Rattle.step_answer.specs.declared.Advanced.{Advanced}
use Rattle.step_answer.specs.Steps.{advanced_in, Advances, Moves, Steps}
use Rattle.engine.specs.Next.{NextIn}

-- the table of a mode
abbrev reading_in : Bool → Reading Instr
reading_in native = pick native instruction card_instruction

awake_unknown : (w : World) (k : ℕ) → w.state.marks.halted ≡ false → Refuses Instr (reading_in (native_of (psw_of w.state))) (source w) 0 k → seen (awake kept w) ≡ stops k
unfolding instruction_in awake decoded
awake_unknown w k h r = rw (r.is, h)

pub next_in : (f ram rom : List ℕ) (ps pc : ℕ) (native : Bool) (r : Answer Instr) → ps ≡ get_or f PS 0 → pc ≡ get_or f PC 0 → native ≡ native_of (get_or f PSW 0)
    → Decodes (reading_in native) (code_byte ram rom ps pc) 0 r → NextIn f ram rom r
next_in f ram rom ps pc native r a b o d = record { is = rw (a, b, o) at d }

refused_so : (s : State) (ram rom tape log : List ℕ) (k : ℕ) → seen (awake kept (world s ram rom tape log)) ≡ stops k → Advances s ram rom tape log false k s ram log nothing
refused_so s ram rom tape log k e = record { most = within_none; is = e; zero = λ q. cc; same = λ q. (refl, refl, refl, refl) }

-- the number says whether a step is done
ok_is : {A : Type 0} (r : Result A Refusal) → eqb (number_in r) 0 ≡ is_ok r
ok_is (Ok a) = refl
ok_is (Err e) = ne_eqb (refusal_number e) 0 (refusal_some e)

module _ (f : List ℕ) (m : Marks) (q : Progress) (ram rom tape log : List ℕ) where
  pub advances_halted : m.halted ≡ true → Advances (state_of f m q) ram rom tape log false 8 (state_of f m q) ram log nothing
  unfolding awake
  advances_halted h = refused_so (state_of f m q) ram rom tape log 8 (rw h)

  module _ (h : m.halted ≡ false) where
    up : World
    up = world (state_of f m q) ram rom tape log

    read : {x : Answer Instr} → NextIn f ram rom x → Decodes (reading_in (native_of (psw_of up.state))) (source up) 0 x
    unfolding up
    read d = d.is

    pub advances_unknown : (e : Refusal) → NextIn f ram rom (Err e) → Advances (state_of f m q) ram rom tape log false (refusal_number e) (state_of f m q) ram log nothing
    unfolding up
    advances_unknown e d = refused_so (state_of f m q) ram rom tape log (refusal_number e) (awake_unknown up (refusal_number e) h (unknown_refuses e (read d)))

    pub advances_known : (i : Instr) (size number : ℕ) (m' : Marks) (q' : Progress) (f' ram' log' : List ℕ) (n : Bus) → NextIn f ram rom (known_as i size)
        → Proceeds i size f ram rom tape log m q number m' q' f' ram' log' n
        → Advances (state_of f m q) ram rom tape log (eqb number 0) number (state_of f' m' q') ram' log' n
    unfolding up instruction_in exec run
    advances_known i size number m' q' f' ram' log' n d p = go (eqb number 0) refl
      where
        known_at : awake kept up ≡ run_by kept (stepping i size) (starting i up)
        known_at = awake_known up i size h (known_reads i size (read d)).is

        go : (t : Bool) → eqb number 0 ≡ t → Advances (state_of f m q) ram rom tape log t number (state_of f' m' q') ram' log' n
        go true y = let z = eqb-true number 0 y in record { most = p.most; is = rw known_at (p.done z).is; zero = λ t. z; same = λ t. absurd (true≢false t) }
        go false y =
            let z = eqb-false number 0 y in
            let (u, x, g, k, l, o) = p.same z in
            record { most = p.most; is = rw known_at (p.stop z).is; zero = λ t. cc; same = λ t. (rw (u, k, l), x, g, o) }

    pub advances_read : (i : Instr) (size : ℕ) (r : Result Advanced Refusal) (f' ram' log' : List ℕ) → NextIn f ram rom (known_as i size)
        → Proceeds i size f ram rom tape log m q (number_in r) (advanced_in m q r).marks (advanced_in m q r).progress f' ram' log' (advanced_in m q r).bus
        → Advances (state_of f m q) ram rom tape log (is_ok r) (number_in r) (state_of f' (advanced_in m q r).marks (advanced_in m q r).progress) ram' log' (advanced_in m q r).bus
    advances_read i size r f' ram' log' d p = rw (← ok_is r) (advances_known i size (number_in r) (advanced_in m q r).marks (advanced_in m q r).progress f' ram' log' (advanced_in m q r).bus d p)

module _ (s : State) (ram rom tape log f ram' log' : List ℕ) (m : Marks) (q : Progress) (n : Bus) where
  -- what an instruction reports, by whether it is done
  pub moves_done : Advances s ram rom tape log true 0 (state_of f m q) ram' log' n → Moves s ram rom tape log 0 (state_of f m q) ram' log' n
  moves_done p = record { most = p.most.cycles; is = rw p.is }

  pub moves_refused : (k : ℕ) → Advances s ram rom tape log false k (state_of f m q) ram' log' n → Moves s ram rom tape log k s ram' log' nothing
  moves_refused k p = let (a, b, c, d) = p.same refl in record { most = zero-le; is = rw (p.is, b, c) }

module _ (s : State) (ram rom tape log : List ℕ) (number : ℕ) (e : number ≡ check_number (world s ram rom tape log)) where
  w : World
  w = world s ram rom tape log

  pub refused_first : (number ≡ 0 → ⊥) → Steps s ram rom tape log number s ram log nothing
  unfolding w step_report step step_by
  refused_first z = record { most = zero-le; is = ap (λ (o : Outcome Unit). report_of w (seen o)) (checked_refused w refusal _ number e z) }

  pub steps : (r : ℕ) (x : State) (ram' log' : List ℕ) (n : Bus) → number ≡ 0 → Moves s ram rom tape log r x ram' log' n → Steps s ram rom tape log r x ram' log' n
  unfolding w step_report step step_by
  steps r x ram' log' n z p =
      let c = checked_passed w refusal (awake kept w) (passed w (sym e ∙ z)) in
      record { most = p.most; is = ap (λ (o : Outcome Unit). report_of w (seen o)) c ∙ p.is }
