-- Lines compared with a listing, line by line. Assumes nothing.
use Prim.Native.Nat.{ℕ, ◌+◌, ◌-◌, ◌≤◌, ◌<◌, zero-le}
use mathlib.Core.Path.{◌≡◌, refl, sym, ap, ◌∙◌}
use mathlib.Core.Bool.{Bool, true, false, true≢false}
use mathlib.Core.List.{List, ◌++◌, append-nil, append_assoc}
use native.Mathlib.Omega.{arith}
use lib.ListN.{length, take, drop, length-append, length-drop}
use lib.Seq.{take_all, take-add, take_at, drop_at, length-take-le}
use lib.Dec.{eqb}
use borrow.Author.Tests.{eqb-true, eqb-false}
use Rattle.base_laws.proofs.Parts.{rest}
use Rattle.rom_list.specs.Makes.{Makes}
use Rattle.rom_list.specs.Agrees.{Begins, Agrees}
use Rattle.rom_form.specs.Listing.{top, line_at, size_at, lines_from, listing}
use Rattle.rom_form.proofs.RoundTrip.{size_at_lem}
use Rattle.rom_form.proofs.Lines.{no_lines, line_and_rest, all_lines}

-- the loop's invariant: the listing is the lines up to `at`, and then the lines from address a on
pub record Agreeing (lines image : List ℕ) (a at : ℕ) : Type 0 where
  pub low : top ≤ a + length image
  pub high : a ≤ top
  pub place : at ≤ length lines
  pub all : listing image ≡ take at lines ++ lines_from (top - a) image a

pub begun : (lines image : List ℕ) → length image ≤ top → Agreeing lines image (top - length image) 0
begun lines image h = record { low = omega arith; high = omega arith; place = zero-le; all = all_lines image h }

module _ {lines image : List ℕ} {a at : ℕ} (g : Agreeing lines image a at) where
  module _ (h : a < top) {line : List ℕ} {b : Bool} {size : ℕ} (m : Makes image a line size) (d : Begins line (take (length lines - at) (drop at lines)) b) where
    here : Begins (line_at image a) (drop at lines) b
    here = rw m.here at (rw (rest at lines) at d)

    next : listing image ≡ take at lines ++ (line_at image a ++ lines_from (top - (a + size_at image a)) image (a + size_at image a))
    next = g.all ∙ ap (λ (l : List ℕ). take at lines ++ l) (line_and_rest image a h)

    pub on_by_one : 1 ≤ size
    on_by_one = omega (arith, (size_at_lem image a h).some, m.counts)

    pub few : size ≤ 9
    few = omega (arith, (size_at_lem image a h).few, m.counts)

    pub line_agrees : b ≡ true → Agreeing lines image (a + size) (at + length line)
    line_agrees t =
        let x = line_at image a in
        let e = here.yes t in
        let f : take (length x) (drop at lines) ≡ x = ap (take (length x)) e ∙ take_at x (drop (length x) (drop at lines)) (length x) refl in
        let n = ap length e ∙ length-append x (drop (length x) (drop at lines)) in
        let fits = (size_at_lem image a h).fits in
        rw (m.counts, m.here)
        (record {
          low = omega (arith, g.low);
          high = omega arith;
          place = omega (arith, g.place, n, length-drop at lines);
          all = next ∙ (sym (append_assoc (take at lines) x _) ∙ ap (λ (l : List ℕ). l ++ lines_from (top - (a + size_at image a)) image (a + size_at image a)) (sym (take-add at (length x) lines ∙ ap (λ (l : List ℕ). take at lines ++ l) f)));
        })

    pub line_differs : b ≡ false → Agrees lines image false
    line_differs t =
        record {
          yes = λ z. absurd (true≢false (sym z));
          no = λ z e.
              here.no t (lines_from (top - (a + size_at image a)) image (a + size_at image a))
              (ap (drop at) (sym e ∙ next) ∙ drop_at (take at lines) _ at (length-take-le at lines g.place));
        }

  module _ (h : top ≤ a) where
    ended : listing image ≡ take at lines
    ended = g.all ∙ (ap (λ (l : List ℕ). take at lines ++ l) (no_lines (top - a) image a h) ∙ append-nil (take at lines))

    pub all_compared : Agrees lines image (eqb at (length lines))
    all_compared =
        record {
          yes = λ t. ended ∙ take_all at lines (omega (arith, eqb-true at (length lines) t));
          no = λ f e. eqb-false at (length lines) f (sym (length-take-le at lines g.place) ∙ ap length (sym ended ∙ e));
        }
