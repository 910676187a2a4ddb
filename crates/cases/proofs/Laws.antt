-- What each arm of the dispatch, and the bytes, come to. Assumes nothing.
use Prim.Native.Nat.{ℕ}
use mathlib.Core.List.{List}
use mathlib.Core.Bool.{true≢false}
use mathlib.Core.Path.{◌≡◌, refl}
use lib.ListN.{replicate}
use Rattle.sheet.specs.declared.Bus.{Bus}
use Rattle.sheet.specs.declared.State.{State}
use Rattle.sheet.specs.Refusals.{number_in}
use Rattle.std.specs.Prelude.{Ok}
use Rattle.sheet.specs.declared.GapRule.{GapRule}
use Rattle.sheet.specs.declared.Entry.{Entry}
use Rattle.sheet.specs.Step as definition
use Rattle.mach_tally.specs.Sums.{Free}
use Rattle.step_answer.specs.Calls.{Interrupts}
use Rattle.step_answer.specs.Steps.{Steps}
use Rattle.step_answer.specs.Runs.{Runs}
use Rattle.log_reader.specs.Answer.{Answers}
use Rattle.case_form.specs.declared.Call.TheVariants.{Step, Run, Interrupt, Reset, ReadLog, Quick}
use Rattle.case_form.specs.declared.Case.{Case}
use Rattle.case_form.specs.Form.{with_entry}
use Rattle.cases.specs.declared.call.Done.{Done}
use Rattle.cases.specs.Called.{steps_of, reset_as, bytes_of, Called, Result, Reading}

module _ (c : Case) (s : State) (ram rom tape log : List ℕ) (d : Done) (ram' log' : List ℕ) where
  pub by_step : c.call ≡ Step → d.steps ≡ steps_of (number_in d.end) → Steps s ram rom tape log (number_in d.end) d.state ram' log' d.bus → Called c s ram rom tape log d ram' log'
  by_step e n p =
      record {
        step = λ z. (n, p);
        run = λ z. absurd (true≢false cc);
        interrupt = λ z. absurd (true≢false cc);
        quick = λ z. absurd (true≢false cc);
        reset = λ z. absurd (true≢false cc);
      }

  pub by_run : c.call ≡ Run → Runs c.budget s ram rom tape log (number_in d.end) d.state ram' log' d.steps d.bus → Called c s ram rom tape log d ram' log'
  by_run e p =
      record {
        step = λ z. absurd (true≢false cc);
        run = λ z. p;
        interrupt = λ z. absurd (true≢false cc);
        quick = λ z. absurd (true≢false cc);
        reset = λ z. absurd (true≢false cc);
      }

  pub by_quick : c.call ≡ Quick → Runs c.budget s ram rom tape log (number_in d.end) d.state ram' log' d.steps d.bus → Called c s ram rom tape log d ram' log'
  by_quick e p =
      record {
        step = λ z. absurd (true≢false cc);
        run = λ z. absurd (true≢false cc);
        interrupt = λ z. absurd (true≢false cc);
        quick = λ z. p;
        reset = λ z. absurd (true≢false cc);
      }

module _ (c : Case) (s : State) (ram rom tape log : List ℕ) (d : Done) (ram' : List ℕ) where
  pub by_interrupt : c.call ≡ Interrupt → d.steps ≡ 0 → Interrupts c.vector c.maskable s ram rom tape log (number_in d.end) d.state ram' d.bus → Called c s ram rom tape log d ram' log
  by_interrupt e n p =
      record {
        step = λ z. absurd (true≢false cc);
        run = λ z. absurd (true≢false cc);
        interrupt = λ z. (n, refl, p);
        quick = λ z. absurd (true≢false cc);
        reset = λ z. absurd (true≢false cc);
      }

module _ (c : Case) (s : State) (ram rom tape log : List ℕ) (d : Done) where
  pub by_reset : c.call ≡ Reset → d ≡ reset_as → Called c s ram rom tape log d ram log
  by_reset e p =
      record {
        step = λ z. absurd (true≢false cc);
        run = λ z. absurd (true≢false cc);
        interrupt = λ z. absurd (true≢false cc);
        quick = λ z. absurd (true≢false cc);
        reset = λ z. (p, refl, refl);
      }

  -- a log reading is no call on the machine
  pub by_read_log : c.call ≡ ReadLog → Called c s ram rom tape log d ram log
  by_read_log e =
      record {
        step = λ z. absurd (true≢false cc);
        run = λ z. absurd (true≢false cc);
        interrupt = λ z. absurd (true≢false cc);
        quick = λ z. absurd (true≢false cc);
        reset = λ z. absurd (true≢false cc);
      }

pub reset_as_lem : (s : State) (n : Bus) → s ≡ definition.reset → Free n → record { end = Ok tt; steps = 0; state = s; bus = n } ≡ reset_as
reset_as_lem s n e k = rw (e, k.is)

pub result_of : (c : Case) (s : State) (ram rom tape log : List ℕ) (d : Done) (ram' log' out : List ℕ) → Called c s ram rom tape log d ram' log' → out ≡ bytes_of d ram' log'
    → Result c s ram rom tape log ram' log' out
result_of c s ram rom tape log d ram' log' out p e = record { done = d; called = p; bytes = e }

pub reading_of : (g : GapRule) (log : List ℕ) (at : ℕ) (e : Entry) (out : List ℕ) → Answers g log at e → out ≡ with_entry e (replicate 17 0) → Reading g log at out
reading_of g log at e out p f = record { entry = e; answers = p; bytes = f }
