-- What each return of a session's code comes to.
use Rattle.std.proofs.Common.{◌≡◌, ℕ, ◌+◌, Bool, true, false, eqb, ◌⊎◌, List, Option, Some, None, is_some, Result, Ok, Err, is_ok, sym, refl, ap, ◌∙◌, subst, inl, inr, true≢false, arith, ne_eqb}
use Rattle.sheet.specs.declared.Bus.{Bus}
use Rattle.sheet.specs.declared.Refusal.{Refusal}
use Rattle.sheet.specs.declared.State.{State}
use Rattle.sheet.specs.Refusals.{refusal_number, number_in}
use Rattle.sheet.proofs.RefusalLaws.{refusal_some}
use Rattle.sheet.specs.World.{world}
use Rattle.sheet.specs.Run.{runs, run_reported, ran_report}
use Rattle.step_answer.specs.declared.Answer.{Answer}
use Rattle.step_answer.specs.Steps.{answer_in}
use Rattle.step_answer.specs.Calls.{Interrupts}
use Rattle.step_answer.specs.Runs.{Runs}
use Rattle.console_schedule.specs.declared.Call.{Call}
use Rattle.console_turns.specs.declared.Session.{Session}
use Rattle.console_turns.specs.declared.Next.{Next}
use Rattle.console_turns.specs.declared.Plan.{Plan}
use Rattle.console_turns.specs.Stand.{coming_of, due_of, call_now, budget_of, answered_by, ran_by}
use Rattle.console.specs.Turns.{Called, called, Continued, continued, Turn, by_call, by_run, Turns, none, more, Plays}

-- a call is done where its number is 0
done_is : {A : Type 0} (a : Result A Refusal) → is_ok a ≡ eqb (number_in a) 0
done_is (Ok a) = refl
done_is (Err r) = sym (ne_eqb (refusal_number r) 0 (refusal_some r))

pub called_is : {call : Call} {plan : Plan} {s r : Session} {ram rom tape log ram' : List ℕ} (a : Result Answer Refusal) → Interrupts call.vector call.maskable s.state ram rom tape log (number_in a) (answer_in s.state a).state ram' (answer_in s.state a).bus → r ≡ answered_by s plan (is_ok a) (answer_in s.state a).state (answer_in s.state a).bus → Called call plan s ram rom tape log r ram'
called_is {call} {plan} {s} {r} {ram} {rom} {tape} {log} {ram'} a h e =
    subst (λ (x : Session). Called call plan s ram rom tape log x ram')
    (sym (e ∙ ap (λ (b : Bool). answered_by s plan b (answer_in s.state a).state (answer_in s.state a).bus) (done_is a)))
    (called h.is)

pub continued_is : {budget due k : ℕ} {waits : Bool} (end : Result Unit Refusal) {plan : Plan} {next : Option Next} {s r : Session} {ram rom tape log ram' log' : List ℕ} {t : State} {n : Bus} → due ≡ due_of next → budget ≡ budget_of s.steps plan.limit due plan.single → Runs budget s.state ram rom tape log (number_in end) t ram' log' k n → waits ≡ is_some next → r ≡ ran_by s plan end t k n waits → Continued next plan s ram rom tape log r ram' log'
continued_is {budget} {due} {k} {waits} end {plan} {next} {s} {r} {ram} {rom} {tape} {log} {ram'} {log'} {t} {n} d b h w e =
    subst
    (λ (x : Session). Continued next plan s ram rom tape log x ram' log')
    (sym (e ∙ ap (ran_by s plan end t k n) w))
    (continued end
    (subst (λ (x : ℕ). ran_report (runs x (world s.state ram rom tape log)) ≡ run_reported (number_in end) (world t ram' rom tape log') k n) (b ∙ ap (λ (x : ℕ). budget_of s.steps plan.limit x plan.single) d) h.is))

module _ (plan : Plan) (next : Option Next) (now : Option Call) (calls : List Call) (s : Session) (e : next ≡ coming_of s calls) (f : now ≡ call_now s next plan.limit) where
  -- the call that is made, as the code found it
  decided : call_now s (coming_of s calls) plan.limit ≡ now
  decided = ap (λ (x : Option Next). call_now s x plan.limit) (sym e) ∙ sym f

  pub turn_by_call : {call : Call} {r : Session} {ram rom tape log ram' : List ℕ} → now ≡ Some call → Called call plan s ram rom tape log r ram' → Turn calls plan s ram rom tape log r ram' log
  turn_by_call y h = by_call (decided ∙ y) h

  pub turn_by_run : {r : Session} {ram rom tape log ram' log' : List ℕ} → now ≡ None → Continued next plan s ram rom tape log r ram' log' → Turn calls plan s ram rom tape log r ram' log'
  turn_by_run {r} {ram} {rom} {tape} {log} {ram'} {log'} y h =
      by_run (decided ∙ y) (subst (λ (x : Option Next). Continued x plan s ram rom tape log r ram' log') e h)

-- ---- sessions that are played in pieces

turns_join : {plan : Plan} {k : ℕ} {calls : List Call} {s s' : Session} {ram rom tape log ram' log' : List ℕ} {j : ℕ} {s'' : Session} {ram'' log'' : List ℕ} → Turns calls plan s ram rom tape log k s' ram' log' → Turns calls plan s' ram' rom tape log' j s'' ram'' log'' → Turns calls plan s ram rom tape log (k + j) s'' ram'' log''
turns_join {plan} {k} {calls} {s} {s'} {ram} {rom} {tape} {log} {ram'} {log'} {j} {s''} {ram''} {log''} h none =
    let same : k ≡ k + 0 = omega arith in
    subst (λ (n : ℕ). Turns calls plan s ram rom tape log n s' ram' log') same h
turns_join {plan} {k} {calls} {s} {s'} {ram} {rom} {tape} {log} {ram'} {log'} {j} {s''} {ram''} {log''} h (more {k = i} g o t) =
    let same : k + i + 1 ≡ k + (i + 1) = omega arith in
    subst (λ (n : ℕ). Turns calls plan s ram rom tape log n s'' ram'' log'') same (more (turns_join h g) o t)

pub plays_none : {plan : Plan} {calls : List Call} {s : Session} {ram rom tape log : List ℕ} → Plays 0 calls plan s ram rom tape log s ram log
plays_none = record { done = 0; is = none; ends = inr refl }

-- a session that is not over has used all its turns
spent : {a b : Bool} {k turns : ℕ} → a ≡ b → b ≡ false → (a ≡ true) ⊎ (k ≡ turns) → k ≡ turns
spent e o (inl y) = absurd (true≢false (sym y ∙ e ∙ o))
spent e o (inr k) = k

pub plays_more : {plan : Plan} {m n : ℕ} {calls : List Call} {s s' s'' : Session} {ram rom tape log ram' log' ram'' log'' : List ℕ} → Plays m calls plan s ram rom tape log s' ram' log' → s'.over ≡ false → Plays n calls plan s' ram' rom tape log' s'' ram'' log'' → Plays (m + n) calls plan s ram rom tape log s'' ram'' log''
plays_more {plan} {m} {n} {calls} {s} {s'} {s''} h o g =
    record { done = h.done + g.done; is = turns_join h.is g.is; ends = ended g.ends }
  where
    ended : (s''.over ≡ true) ⊎ (g.done ≡ n) → (s''.over ≡ true) ⊎ (h.done + g.done ≡ m + n)
    ended (inl y) = inl y
    ended (inr e) = inr (let k : h.done ≡ m = spent refl o h.ends in rw (k, e))

pub plays_over : {turns k : ℕ} {plan : Plan} {calls : List Call} {s r : Session} {ram rom tape log ram' log' : List ℕ} → Turns calls plan s ram rom tape log k r ram' log' → r.over ≡ true → Plays turns calls plan s ram rom tape log r ram' log'
plays_over {turns} {k} h e = record { done = k; is = h; ends = inl e }

pub plays_spent : {turns k : ℕ} {plan : Plan} {calls : List Call} {s r : Session} {ram rom tape log ram' log' : List ℕ} → Turns calls plan s ram rom tape log k r ram' log' → k ≡ turns → Plays turns calls plan s ram rom tape log r ram' log'
plays_spent {turns} {k} h e = record { done = k; is = h; ends = inr e }
