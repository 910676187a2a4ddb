-- Texts put into a line one after the other.
use Prim.Native.Nat.{ℕ, ◌+◌, ◌≤◌, ◌<◌}
use mathlib.Core.Path.{◌≡◌, ◌∙◌, sym, ap}
use mathlib.Core.List.{List, [], ◌∷◌, ◌++◌, append_assoc, append-nil}
use native.Mathlib.Omega.{arith}
use lib.ListN.{length, length-append}
use Rattle.base_line.specs.Adds.{Adds, Puts}

pub nothing : (line : List ℕ) → Adds [] line line
nothing line = record { adds = λ m. sym (append-nil line) }

-- x, and behind it y
pub then : {x y line line' line'' : List ℕ} → Adds x line line' → Adds y line' line'' → Adds (x ++ y) line line''
then {x} {y} {line} {line'} a b =
    record {
      adds = λ m.
          let e = append_assoc line x y in
          let n : length (line ++ x) ≤ 80 = omega (arith, m, length-append line (x ++ y), length-append x y, length-append line x) in
          let p = a.adds n in
          let k : length (line' ++ y) ≤ 80 = omega (arith, m, ap length p, length-append line' y, length-append line (x ++ y), length-append x y, length-append line x) in
          b.adds k ∙ (ap (λ (l : List ℕ). l ++ y) p ∙ e);
    }

-- the text of a thing that is known to be another
pub adds_known : {I : Type 0} (text : I → List ℕ) {i j : I} {line line' : List ℕ} → i ≡ j → Adds (text j) line line' → Adds (text i) line line'
adds_known text e h = rw e h

-- likewise where the text also depends on a number
pub adds_known_at : {I : Type 0} (text : ℕ → I → List ℕ) {n : ℕ} {i j : I} {line line' : List ℕ} → i ≡ j → Adds (text n j) line line' → Adds (text n i) line line'
adds_known_at text {n} = adds_known (text n)

-- a text that was put into an empty line, and that line's text into 80 bytes
pub puts_line : {x line s s' : List ℕ} {at r : ℕ} → Adds x [] line → Puts line s at r s' → Puts x s at r s'
puts_line {x} a p =
    record {
      puts = λ t m h.
          let e = a.adds (omega (arith, m, length-append t x)) in
          rw (← e) (p.puts t (rw e m) h);
    }
