-- A session that begins where reset leads, played turn by turn.
use Rattle.std.proofs.Common.{◌≡◌, ℕ, ◌-◌, List, subst, arith, true, ap, ◌∙◌, inl}
use Rattle.console_schedule.specs.declared.Call.{Call}
use Rattle.console_turns.specs.declared.Session.{Session}
use Rattle.console_turns.specs.declared.Plan.{Plan}
use Rattle.console.specs.Turns.{Plays}
use Rattle.sheet.specs.declared.State.{State}
use Rattle.sheet.specs.Step.{reset}
use Rattle.console_turns.specs.Stand.{begun}

-- so many turns, under another name of their number
pub so_many : {k m : ℕ} {plan : Plan} {calls : List Call} {s s' : Session} {ram rom tape log ram' log' : List ℕ} → k ≡ m → Plays k calls plan s ram rom tape log s' ram' log' → Plays m calls plan s ram rom tape log s' ram' log'
so_many {k} {m} {plan} {calls} {s} {s'} {ram} {rom} {tape} {log} {ram'} {log'} e h =
    subst (λ (n : ℕ). Plays n calls plan s ram rom tape log s' ram' log') e h

pub from_reset : {turns : ℕ} {plan : Plan} {t : State} {calls : List Call} {s s' : Session} {ram rom tape log ram' log' : List ℕ} → t ≡ reset → s ≡ begun t → Plays turns calls plan s ram rom tape log s' ram' log' → Plays turns calls plan (begun reset) ram rom tape log s' ram' log'
from_reset {turns} {plan} {t} {calls} {s} {s'} {ram} {rom} {tape} {log} {ram'} {log'} e f h =
    subst (λ (x : Session). Plays turns calls plan x ram rom tape log s' ram' log') (f ∙ ap begun e) h

-- a session that is over needs no more turns
pub over_early : {k m : ℕ} {plan : Plan} {calls : List Call} {s s' : Session} {ram rom tape log ram' log' : List ℕ} → Plays k calls plan s ram rom tape log s' ram' log' → s'.over ≡ true → Plays m calls plan s ram rom tape log s' ram' log'
over_early h e = record { done = h.done; is = h.is; ends = inl e }

-- of m pieces none is left
pub all_spent : (m p : ℕ) {plan : Plan} {calls : List Call} {s s' : Session} {ram rom tape log ram' log' : List ℕ} → p ≡ 0 → Plays (m - p) calls plan s ram rom tape log s' ram' log' → Plays m calls plan s ram rom tape log s' ram' log'
all_spent m p z h = let e : m - p ≡ m = omega arith in so_many e h
