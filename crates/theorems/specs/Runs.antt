-- What a run is: its single steps, and how they end.
use Rattle.std.specs.Prelude.{ℕ, suc, ◌<◌, true, false, List, [], ◌∷◌, ◌++◌, ◌≡◌}
use Rattle.sheet.specs.World.{World}
use Rattle.sheet.specs.Handler.{Event, refused, done}
use Rattle.sheet.specs.Step.{fits, sound, step}
use Rattle.sheet.specs.Run.{FinishedStep, begun_in, Ran, ran}

-- k accepted steps, one after the other, lead from one world to another
pub data Walk : World → ℕ → World → List FinishedStep → Type 0 where
  none : {w : World} → Walk w 0 w []
  step_then : {w u v : World} {k : ℕ} {s : List Event} {l : List FinishedStep} → step w ≡ done tt u s → Walk u k v l → Walk w (suc k) v (begun_in w s ∷ l)

-- what a run comes to: a number, the world, the finished steps, the events of the refused one
pub data RunOf (budget : ℕ) (w : World) : Ran → Type 0 where
  -- 1 or 2 for the world that it is given, whatever the budget
  unfit : fits w ≡ false → RunOf budget w (ran 1 w [] [])
  unsound : fits w ≡ true → sound w ≡ false → RunOf budget w (ran 2 w [] [])
  -- the budget is spent
  spent : {v : World} {l : List FinishedStep} → fits w ≡ true → sound w ≡ true → Walk w budget v l → RunOf budget w (ran 0 v l [])
  -- the next step refuses: its number, and what the steps before it left
  stopped : {k n : ℕ} {v : World} {l : List FinishedStep} {s : List Event} → fits w ≡ true → sound w ≡ true → k < budget → Walk w k v l → step v ≡ refused n s
      → RunOf budget w (ran n v l s)

-- finished steps, and then what the rest came to
abbrev pub after : List FinishedStep → Ran → Ran
after l (ran n v m s) = ran n v (l ++ m) s
