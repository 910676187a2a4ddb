-- The check of a text, line by line. Assumes nothing.
use Prim.Native.Nat.{ℕ, ◌+◌, ◌-◌, ◌*◌, ◌≤◌, ◌<◌, zero-le}
use mathlib.Core.Path.{◌≡◌, refl, sym, ap, ◌∙◌}
use mathlib.Core.List.{List}
use native.Mathlib.Omega.{arith}
use lib.ListN.{length, take, drop, length-drop, drop_of_length-le}
use lib.Seq.{drop-drop}
use lib.Dec.{eqb, lit≤}
use borrow.Author.Tests.{eq-eqb, ne_eqb}
use Rattle.sheet.specs.Width.{pick}
use Rattle.base_laws.proofs.Parts.{rest}
use Rattle.hex_form.specs.Line.{span}
use Rattle.hex_form.specs.Reading.{fault, verdict, verdict_from, verdict_of, Passes}
use Rattle.hex_form.proofs.Walk.{span_some, span_there, good_formed, no_line, faulty_line, end_line, line_and_rest}
use Rattle.hex_fault.proofs.Laws.{segment_small}

-- the segment behind a line is a 16-bit number again
pub passes_small : {g : ℕ} {s : List ℕ} {k n m : ℕ} → Passes g s k n m → g ≤ 65535 → m ≤ 65535
passes_small {g} {s} p h = rw p.segments (segment_small g s h)

-- the loop's invariant: what is left of the text decides
pub record Checking (base n : ℕ) (text : List ℕ) (at segment line : ℕ) : Type 0 where
  pub place : at ≤ length text
  pub small : segment ≤ 65535
  pub few : 2 * line ≤ at + 2
  pub all : verdict_of base n text ≡ verdict_from base n segment line 0 (drop at text)

pub begun : (base n : ℕ) (text : List ℕ) → Checking base n text 0 0 1
unfolding verdict_of
begun base n text = record { place = zero-le; small = zero-le; few = lit≤ tt; all = refl }

module _ {base n : ℕ} {text : List ℕ} {at segment line : ℕ} (g : Checking base n text at segment line) where
  abbrev left : List ℕ
  left = drop at text

  module _ (h : at < length text) {number : ℕ} (r : number ≡ fault base n segment (take (length text - at) (drop at text))) where
    some : 0 < length left
    some = rw (length-drop at text) (omega arith)

    e : number ≡ fault base n segment left
    e = rw (rest at text) at r

    pub refused : (number ≡ 0 → ⊥) → verdict_of base n text ≡ verdict number line
    refused f = g.all ∙ (faulty_line base n segment line left some (λ z. f (e ∙ z)) ∙ ap (λ (x : ℕ). verdict x line) (sym e))

    module _ (f : number ≡ 0) {k p q : ℕ} (w : Passes segment (take (length text - at) (drop at text)) k p q) where
      good : fault base n segment left ≡ 0
      good = sym e ∙ f

      v : Passes segment left k p q
      v = rw (rest at text) at w

      -- the line lies in the text, and is 2 characters long at least
      pub fits : at + p ≤ length text
      fits = omega (arith, v.spans, span_there left (good_formed base n segment left good), length-drop at text, g.place)

      pub long : 2 ≤ p
      long = rw v.spans (span_some left)

      module _ (k₁ : k ≡ 1) where
        ended : verdict_of base n text ≡ pick (eqb (length left) (span left)) (verdict 0 0) (verdict 10 (line + 1))
        ended = g.all ∙ end_line base n segment line left some good (sym v.kinds ∙ k₁)

        pub whole : at + p ≡ length text → verdict_of base n text ≡ verdict 0 0
        whole z =
            let y : length left ≡ span left = omega (arith, v.spans, length-drop at text) in
            ended ∙ rw (eq-eqb (length left) (span left) y)

        pub text_behind : (at + p ≡ length text → ⊥) → verdict_of base n text ≡ verdict 10 (line + 1)
        text_behind z =
            ended ∙ rw (ne_eqb (length left) (span left) λ y. z (omega (arith, v.spans, length-drop at text, g.place)))

      pub passed : (k ≡ 1 → ⊥) → Checking base n text (at + p) q (line + 1)
      passed z =
          record {
            place = fits;
            small = rw v.segments (segment_small segment left g.small);
            few = omega (arith, g.few, long);
            all = g.all ∙ (line_and_rest base n segment line left some good (λ y. z (v.kinds ∙ y)) ∙ rw (drop-drop (span left) at text, v.spans, v.segments));
          }

  pub end_missing : length text ≤ at → verdict_of base n text ≡ verdict 10 line
  end_missing h = g.all ∙ rw (drop_of_length-le text h) (no_line base n segment line)
