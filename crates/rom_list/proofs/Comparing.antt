-- Whether bytes begin with others, by what the library says of `starts_with`. Assumes nothing.
use mathlib.Core.Path.{◌≡◌, sym, ◌∙◌}
use mathlib.Core.Bool.{Bool, true≢false}
use mathlib.Core.List.{List}
use Prim.Native.Nat.{ℕ}
use lib.Dec.{eqb}
use Rattle.std.specs.List.{starts_with}
use Rattle.std.proofs.lemmas.Bool.Decides.{Decides-eqb}
use Rattle.std.proofs.lemmas.Slice.Eq.{starts_is}
use Rattle.rom_list.specs.Agrees.{Begins}

pub compared : (s x : List ℕ) (b : Bool) → b ≡ starts_with eqb s x → Begins x s b
compared s x b e = let d = starts_is Decides-eqb s x b e in record { yes = d.0; no = λ f t p. true≢false (sym (d.1 t p) ∙ f) }
