-- What was read and what was written, by address.
use Prim.Native.Nat.{ℕ}
use mathlib.Core.Bool.{Bool, true, false}
use mathlib.Core.List.{List, [], ◌∷◌}
use mathlib.Core.Logic.{◌≢◌}
use Rattle.sheet.specs.Memory.{physical, next}
use Rattle.sheet.specs.Handler.{Event, reads, writes, takes, gives, asks, copies, changes}

-- the addresses of an access
abbrev pub Covers : (ℕ → Type 0) → Bool → ℕ → ℕ → Type 0
Covers P false g o = P (physical g o)
Covers P true g o = P (physical g o) × P (physical g (next o))

-- what an event reads lies in P
abbrev pub Sees : (ℕ → Type 0) → Event → Type 0
Sees P (reads b g o) = Covers P b g o
Sees P (writes b g o v d) = Unit
Sees P (takes b n v) = Unit
Sees P (gives b n v) = Unit
Sees P (asks f) = Unit
Sees P (copies b) = Unit
Sees P (changes c) = Unit

-- a is no address that an event writes
abbrev pub Misses : ℕ → Event → Type 0
Misses a (reads b g o) = Unit
Misses a (writes b g o v d) = Covers (λ x. a ≢ x) b g o
Misses a (takes b n v) = Unit
Misses a (gives b n v) = Unit
Misses a (asks f) = Unit
Misses a (copies b) = Unit
Misses a (changes c) = Unit

-- Q holds of each event
abbrev pub Each : (Event → Type 0) → List Event → Type 0
Each Q [] = Unit {0}
Each Q (e ∷ t) = Q e × Each Q t

-- all that was read lies in P
abbrev pub Within : (ℕ → Type 0) → List Event → Type 0
Within P t = Each (Sees P) t

-- nothing was written at a
abbrev pub Spares : ℕ → List Event → Type 0
Spares a t = Each (Misses a) t
