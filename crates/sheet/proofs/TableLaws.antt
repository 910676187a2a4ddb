-- What a table of codes says of one code: the row that covers it, where those before it lie below.
use Prim.Native.Nat.{ℕ, ◌+◌, ◌≤◌, ◌<◌}
use mathlib.Core.Path.{◌≡◌}
use mathlib.Core.Bool.{Bool, true, false, ◌&&◌, and-eq-true_iff}
use mathlib.Core.List.{List, [], ◌∷◌, ◌++◌}
use native.Mathlib.Omega.{arith}
use lib.Dec.{leb, ltb}
use borrow.Author.Tests.{leb-true, le-leb, lt-ltb, le-ltb}
use Rattle.sheet.specs.Width.{pick}
use Rattle.sheet.specs.Encoding.{Row, look_up}

-- every row of a list ends at n or before
abbrev pub below : ℕ → List Row → Bool
below n [] = true
below n (r ∷ t) = leb (r.from + r.many) n && below n t

pub look_up_at : (before : List Row) (r : Row) (after : List Row) (b : ℕ) → below r.from before ≡ true → r.from ≤ b → b < r.from + r.many
    → look_up (before ++ (r ∷ after)) b ≡ r.reads b
unfolding look_up
look_up_at [] r after b e h k = rw (le-leb r.from b h, lt-ltb b (r.from + r.many) k)
look_up_at (q ∷ t) r after b e h k =
    let (x, y) = (and-eq-true_iff (leb (q.from + q.many) r.from) (below r.from t)).0 e in
    let z = leb-true (q.from + q.many) r.from x in
    let w : q.from + q.many ≤ b = omega arith in
    go (leb q.from b) w (look_up_at t r after b y h k)
  where
    go : (c : Bool) → q.from + q.many ≤ b → look_up (t ++ (r ∷ after)) b ≡ r.reads b
        → pick (c && ltb b (q.from + q.many)) (q.reads b) (look_up (t ++ (r ∷ after)) b) ≡ r.reads b
    go true w i = rw (le-ltb b (q.from + q.many) w) i
    go false w i = i
