-- The log that steps leave is the log before them with the records of their port accesses, and is read back to those.
use Prim.Native.Nat.{ℕ, zero, suc, ◌+◌, ◌≤◌, ◌<◌, min}
use mathlib.Core.Path.{◌≡◌, refl, sym, subst, ◌∙◌}
use mathlib.Core.Bool.{true, false}
use mathlib.Core.List.{List, [], ◌∷◌, ◌++◌, append-nil, append_assoc}
use native.Mathlib.Omega.{arith}
use lib.ListN.{length, take, drop, length-append}
use lib.Seq.{length-take-le}
use Rattle.sheet.specs.Log.{ceiling, rule, risen, key_of, write_log}
use Rattle.sheet.specs.World.{World}
use Rattle.sheet.specs.Handler.{Event, reads, writes, takes, gives, asks, copies, changes, Outcome, refused, done, kept}
use Rattle.sheet.specs.Step.{step, starting, stepping}
use Rattle.sheet.proofs.StepLaws.{begins}
use Rattle.sheet.proofs.Replay.{Track, track_of, logged, effect, replay, Replays, replays, replays_all}
use Rattle.log_record.specs.Whole.{Row, AllSound, row_bytes, log_bytes, at_end, Reads}
use Rattle.log_record.proofs.Whole.{written_read}
use Rattle.log_record.proofs.Growth.{log_grows}
use Rattle.sheet.specs.Lendable.{lendable}
use Rattle.theorems.specs.Rows.{use_of, row_of, rows_of_use, since_use, rows_of, since, rows_along, since_along, steps_from, world_after}
use Rattle.theorems.proofs.PortRow.{AtMostOne, no_row, one_row, step_row}

-- ---- the used part of a log

-- it is the bytes of these records, and n steps are finished since the last
pub record Used (n : ℕ) (rs : List Row) (x : Track) : Type 0 where
  pub within : x.at ≤ length x.log
  pub same : take x.at x.log ≡ log_bytes rule rs
  pub count : x.count ≡ min n (ceiling rule)

one_more : (n : ℕ) (rs : List Row) (r : Row) (m : ℕ) (x : Track) → Used n rs x → Used 0 (rs ++ (r ∷ [])) (logged (row_bytes rule r) m x)
unfolding write_log
one_more n rs r m x u =
    let b = row_bytes rule r in
    let e : length (take x.at x.log) ≡ x.at = length-take-le x.at x.log u.within in
    record {
      within = rw (length-append (take x.at x.log) (b ++ drop (x.at + length b) x.log), length-append b (drop (x.at + length b) x.log), e) (omega arith);
      same = log_grows rule x.log x.at rs r u.within u.same;
      count = refl;
    }

-- what is none to the log
unused : {n : ℕ} {rs : List Row} {x y : Track} → Used n rs x → y.at ≡ x.at → y.log ≡ x.log → y.count ≡ x.count → Used n (rs ++ []) y
unused {rs = rs} u a l c = record { within = rw (a, l) u.within; same = rw (a, l, append-nil rs) u.same; count = c ∙ u.count }

used_event : (e : Event) (n : ℕ) (rs : List Row) (x : Track) → Used n rs x → Used (since_use n (use_of e)) (rs ++ rows_of_use n (use_of e)) (effect e x)
used_event (reads b g o) n rs x u = unused u refl refl refl
used_event (writes b g o v d) n rs x u = unused u refl refl refl
used_event (takes b p v) n rs x u = rw u.count (one_more n rs (row_of (min n (ceiling rule)) (key_of false b p) v) _ x u)
used_event (gives b p v) n rs x u = rw u.count (one_more n rs (row_of (min n (ceiling rule)) (key_of true b p) v) 0 x u)
used_event (asks f) n rs x u = unused u refl refl refl
used_event (copies b) n rs x u = unused u refl refl refl
used_event (changes c) n rs x u = unused u refl refl refl

used_events : (t : List Event) (n : ℕ) (rs : List Row) (x : Track) → Used n rs x → Used (since n t) (rs ++ rows_of n t) (replay t x)
unfolding rows_of since replay
used_events [] n rs x u = rw (append-nil rs) u
used_events (e ∷ t) n rs x u =
    let m = since_use n (use_of e) in
    let here = rows_of_use n (use_of e) in
    subst (λ l. Used (since m t) l (replay t (effect e x))) (append_assoc rs here (rows_of m t)) (used_events t m (rs ++ here) (effect e x) (used_event e n rs x u))

-- ---- a step

pub track_left : {A : Type 0} {x : Track} {a : A} {v : World} {t : List Event} → Replays {A = A} x (done a v t) → track_of v ≡ replay t x
track_left (replays h) = h

-- the count is that of the finished steps, up to the ceiling
min_risen : (n c : ℕ) → min (min n c + 1) c ≡ min (n + 1) c
min_risen n c = omega arith

-- THE LOG OF A STEP: each port access adds its record, whose gap counts the finished steps, this one included
pub step_log : (w v : World) (t : List Event) (n : ℕ) (rs : List Row) → step w ≡ done tt v t → Used n rs (track_of w)
    → Used (since (n + 1) t) (rs ++ rows_of (n + 1) t) (track_of v)
unfolding step starting
step_log w v t n rs e u =
    let a = begins kept w v t e in
    let r = rw a.ran at (replays_all (stepping a.instr a.size) kept (starting a.instr w)) in
    let c : risen rule w.state.progress.count ≡ min (n + 1) (ceiling rule) = rw u.count (min_risen n (ceiling rule)) in
    subst (Used (since (n + 1) t) (rs ++ rows_of (n + 1) t)) (sym (track_left r))
    (used_events t (n + 1) rs (track_of (starting a.instr w)) (record { within = u.within; same = u.same; count = c }))

-- ---- steps

-- so far the log is used for sound records
pub record Logged (n : ℕ) (rs : List Row) (w : World) : Type 0 where
  pub used : Used n rs (track_of w)
  pub sound : AllSound rule rs

also_sound : (rs qs : List Row) → AllSound rule rs → AtMostOne qs → AllSound rule (rs ++ qs)
unfolding AllSound
also_sound [] [] h no_row = tt
also_sound [] (r ∷ []) h (one_row s) = (s, tt)
also_sound (r ∷ rs) qs h a = (h.0, also_sound rs qs h.1 a)
also_sound [] (r ∷ (_ ∷ _)) h a = elim a [ ]

-- THE LOG OF A RUN: one record for each port access, with its gap
pub run_log : (k : ℕ) (w : World) (n : ℕ) (rs : List Row) → ((j : ℕ) → j < k → lendable (world_after j w) ≡ true) → Logged n rs w
    → Logged (since_along n (steps_from k w)) (rs ++ rows_along n (steps_from k w)) (world_after k w)
unfolding steps_from world_after rows_along since_along
run_log zero w n rs h l = rw (append-nil rs) l
run_log (suc k) w n rs h l = go (step w) refl (λ v m qs. run_log k v m qs)
  where
    rest : (v : World) (t : List Event) → step w ≡ done tt v t → (j : ℕ) → j < k → lendable (world_after j v) ≡ true
    rest v t e j i = rw e at (h (suc j) (omega arith))

    go : (o : Outcome Unit) → step w ≡ o
        → ((v : World) (m : ℕ) (qs : List Row) → ((j : ℕ) → j < k → lendable (world_after j v) ≡ true) → Logged m qs v
        → Logged (since_along m (steps_from k v)) (qs ++ rows_along m (steps_from k v)) (world_after k v))
        → Logged (since_along n (steps_from (suc k) w)) (rs ++ rows_along n (steps_from (suc k) w)) (world_after (suc k) w)
    go (refused m t) e on = rw (e, append-nil rs) l
    go (done tt v t) e on =
        let here = rows_of (n + 1) t in
        let one : Logged (since (n + 1) t) (rs ++ here) v = record { used = step_log w v t n rs e l.used; sound = also_sound rs here l.sound (step_row w v t (h 0 (omega arith)) e n) } in
        rw e (subst (λ q. Logged (since_along (since (n + 1) t) (steps_from k v)) q (world_after k v)) (append_assoc rs here _) (on v (since (n + 1) t) (rs ++ here) (rest v t e) one))

-- ---- what is read back

-- the used part is read back to the same records
pub used_read : (n : ℕ) (rs : List Row) (w : World) → Logged n rs w → Reads rule (take w.state.progress.log w.log) 0 rs at_end
used_read n rs w l = subst (λ q. Reads rule q 0 rs at_end) (sym l.used.same) (written_read rule rs l.sound)
