-- Stores one after the other. Assumes nothing.
use Prim.Native.Nat.{ℕ, ◌-◌}
use mathlib.Core.Path.{◌≡◌, refl, ◌∙◌}
use mathlib.Core.Bool.{Bool, true, false}
use mathlib.Core.List.{List, [], ◌∷◌, ◌++◌}
use lib.ListN.{length, set, length-set}
use Rattle.sheet.specs.Width.{pick}
use Rattle.hex_form.specs.Reading.{inside, Store, store, stored, applied}

pub applied_append : (base : ℕ) (x y : List Store) (image : List ℕ) → applied base (x ++ y) image ≡ applied base y (applied base x image)
unfolding applied
applied_append base [] y image = refl
applied_append base (s ∷ x) y image = applied_append base x y (stored base s image)

same_stored : (base : ℕ) (x : Store) (image : List ℕ) → length (stored base x image) ≡ length image
unfolding stored
same_stored base (store a v) image = go (inside base (length image) a)
  where
    go : (t : Bool) → length (pick t (set image (a - base) v) image) ≡ length image
    go true = length-set image (a - base) v
    go false = refl

pub same_length : (base : ℕ) (x : List Store) (image : List ℕ) → length (applied base x image) ≡ length image
unfolding applied
same_length base [] image = refl
same_length base (s ∷ x) image = same_length base x (stored base s image) ∙ same_stored base s image
