-- What a value is, known through a thing that is known to be another.
use mathlib.Core.Path.{◌≡◌}

pub known : {I A : Type 0} (f : I → A) {i j : I} {x : A} → i ≡ j → x ≡ f j → x ≡ f i
known f e h = rw e h

-- likewise of the first of two arguments, and of the second
pub known_first : {I B A : Type 0} (f : I → B → A) {i j : I} {b : B} {x : A} → i ≡ j → x ≡ f j b → x ≡ f i b
known_first f e h = rw e h

pub known_second : {B I A : Type 0} (f : B → I → A) {b : B} {i j : I} {x : A} → i ≡ j → x ≡ f b j → x ≡ f b i
known_second f {b} = known (f b)
