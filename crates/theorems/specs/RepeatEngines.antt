-- The engines that demand 3 is stated of: functions from worlds to outcomes, the definition's own among them.
use Rattle.std.specs.Prelude.{ℕ, Bool, List, [], ◌∷◌, ◌≡◌}
use Rattle.sheet.specs.World.{World}
use Rattle.sheet.specs.Handler.{Event, reads, writes, takes, gives, asks, copies, changes, Outcome, refused, done}
use Rattle.sheet.specs.Step.{step, interrupt}
use Rattle.theorems.specs.Repeat.{Engine}

-- the data accesses among events, in their order
unfoldable pub accesses : List Event → List Event
accesses [] = []
accesses (reads b g o ∷ t) = reads b g o ∷ accesses t
accesses (writes b g o v d ∷ t) = writes b g o v d ∷ accesses t
accesses (takes b n v ∷ t) = takes b n v ∷ accesses t
accesses (gives b n v ∷ t) = gives b n v ∷ accesses t
accesses (asks f ∷ t) = accesses t
accesses (copies b ∷ t) = accesses t
accesses (changes c ∷ t) = accesses t

-- what an outcome of a call from w tells: number, world, and what is shown of its events
pub data Tells {O : Type 0} (of : List Event → O) (w : World) (outcome : Outcome Unit) : ℕ → World → O → Type 0 where
  accepts : {v : World} {t : List Event} → outcome ≡ done tt v t → Tells of w outcome 0 v (of t)
  refuses : {n : ℕ} {t : List Event} → outcome ≡ refused n t → Tells of w outcome n w (of [])

-- an engine that shows its data accesses
abbrev pub engine : (World → Outcome Unit) → (ℕ → Bool → World → Outcome Unit) → Engine
engine steps interrupts = record {
  Shown = List Event;
  of = accesses;
  Step = λ w n v o. Tells accesses w (steps w) n v o;
  Interrupt = λ vector maskable w n v o. Tells accesses w (interrupts vector maskable w) n v o;
}

abbrev pub definition : Engine
definition = engine step interrupt
