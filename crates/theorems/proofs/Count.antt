-- The count of steps since the last record, after a step that makes none.
use Prim.Native.Nat.{ℕ, ◌+◌, ◌<◌}
use mathlib.Core.Path.{◌≡◌, refl, ap, ◌∙◌}
use mathlib.Core.Bool.{true≢false}
use mathlib.Core.List.{List, [], ◌∷◌}
use native.Mathlib.Omega.{arith}
use Rattle.sheet.specs.Log.{ceiling, rule, risen}
use Rattle.sheet.specs.World.{World}
use Rattle.sheet.specs.Handler.{Event, reads, writes, takes, gives, asks, copies, changes, done, kept}
use Rattle.sheet.specs.Step.{step, starting, stepping}
use Rattle.sheet.proofs.StepLaws.{begins}
use Rattle.sheet.proofs.Replay.{Track, track_of, replay, replays_all}
use Rattle.theorems.specs.Rows.{rows_of}
use Rattle.theorems.proofs.Log.{track_left}

-- events that make no record leave the count
count_kept : (t : List Event) (n : ℕ) (x : Track) → rows_of n t ≡ [] → (replay t x).count ≡ x.count
unfolding replay rows_of
count_kept [] n x h = refl
count_kept (reads b g o ∷ t) n x h = count_kept t n x h
count_kept (writes b g o v d ∷ t) n x h = count_kept t n _ h
count_kept (takes b p v ∷ t) n x h = absurd (true≢false cc)
count_kept (gives b p v ∷ t) n x h = absurd (true≢false cc)
count_kept (asks f ∷ t) n x h = count_kept t n x h
count_kept (copies b ∷ t) n x h = count_kept t n x h
count_kept (changes c ∷ t) n x h = count_kept t n x h

module _ (w v : World) (t : List Event) (e : step w ≡ done tt v t) (n : ℕ) (h : rows_of n t ≡ []) where
  pub step_count : v.state.progress.count ≡ risen rule w.state.progress.count
  unfolding step starting
  step_count =
      let a = begins kept w v t e in
      let r = rw a.ran at (replays_all (stepping a.instr a.size) kept (starting a.instr w)) in
      ap (λ (x : Track). x.count) (track_left r) ∙ count_kept t n (track_of (starting a.instr w)) h

  -- it rises by one up to the ceiling, and stays there
  pub count_rises : w.state.progress.count < ceiling rule → v.state.progress.count ≡ w.state.progress.count + 1
  count_rises l = omega (arith, step_count)

  pub count_stays : w.state.progress.count ≡ ceiling rule → v.state.progress.count ≡ ceiling rule
  count_stays q = omega (arith, step_count)
