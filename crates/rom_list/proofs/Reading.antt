-- The reader's loop. Assumes nothing.
use Prim.Native.Nat.{ℕ, ◌+◌, ◌*◌, ◌≤◌, ◌<◌, zero-le}
use mathlib.Core.Path.{◌≡◌, refl, sym, ap, ◌∙◌}
use mathlib.Core.Bool.{Bool, true, false}
use mathlib.Core.List.{List, [], ◌∷◌, ◌++◌, append-nil, append_assoc}
use native.Mathlib.Numerals.{add-one}
use native.Mathlib.Omega.{arith}
use lib.ListN.{length, get_or, drop, set, length-append, drop_of_length-le}
use lib.Seq.{drop-cons}
use lib.Dec.{lit≤}
use Rattle.base_laws.specs.Writes.{Writes}
use Rattle.base_laws.proofs.Writing.{none, same, byte}
use Rattle.rom_form.specs.Restored.{digit_of, restored_from, restored}
use Rattle.rom_list.specs.Restores.{ends_byte, high_after}
use Rattle.rom_list.proofs.Characters.{high_small, line_end_read, second_read, other_read}

-- the loop's invariant: `done` stands in the room, and what is left of the lines gives the rest
pub record Going (lines room₀ room : List ℕ) (column high len i : ℕ) : Type 0 where
  pub done : List ℕ
  pub wrote : Writes done room₀ len room
  pub digit : high < 16
  pub place : i ≤ length lines
  pub narrow : column ≤ i
  pub all : restored lines ≡ done ++ restored_from column high (drop i lines)

pub begun : (lines room : List ℕ) → Going lines room room 0 0 0 0
unfolding restored
begun lines room = record { done = []; wrote = none room; digit = lit≤ tt; place = zero-le; narrow = zero-le; all = refl }

module _ {lines room₀ room : List ℕ} {column high len i : ℕ} (g : Going lines room₀ room column high len i) where
  pub room_kept : length room ≡ length room₀
  room_kept = same g.wrote

  module _ (h : i < length lines) where
    -- the rest begins with the character that is read
    next : restored lines ≡ g.done ++ restored_from column high (get_or lines i 0 ∷ drop (i + 1) lines)
    next = g.all ∙ rw (drop-cons lines i 0 h, add-one i)

    pub line_ended : get_or lines i 0 ≡ 10 → Going lines room₀ room 0 0 len (i + 1)
    line_ended e =
        record {
          done = g.done;
          wrote = g.wrote;
          digit = lit≤ tt;
          place = omega arith;
          narrow = zero-le;
          all = next ∙ ap (λ (l : List ℕ). g.done ++ l) (line_end_read column high _ (drop (i + 1) lines) e);
        }

    module _ (n : get_or lines i 0 ≡ 10 → ⊥) (b : Bool) (e : b ≡ ends_byte column (get_or lines i 0)) where
      pub passed : (d : ℕ) → d ≡ high_after column high (get_or lines i 0) → b ≡ false → Going lines room₀ room (column + 1) d len (i + 1)
      passed d q f =
          rw q
          (record {
            done = g.done;
            wrote = g.wrote;
            digit = high_small column high (get_or lines i 0) g.digit;
            place = omega arith;
            narrow = omega (arith, g.narrow);
            all = next ∙ ap (λ (l : List ℕ). g.done ++ l) (other_read column high _ (drop (i + 1) lines) n (sym e ∙ f));
          })

      module _ (t : b ≡ true) where
        one_more : restored lines ≡ (g.done ++ ((16 * high + digit_of (get_or lines i 0)) ∷ [])) ++ restored_from (column + 1) 0 (drop (i + 1) lines)
        one_more =
            next
            ∙ (ap (λ (l : List ℕ). g.done ++ l) (second_read column high _ (drop (i + 1) lines) n (sym e ∙ t)) ∙ sym (append_assoc g.done ((16 * high + digit_of (get_or lines i 0)) ∷ []) (restored_from (column + 1) 0 (drop (i + 1) lines))))

        pub put : (x : ℕ) → x ≡ digit_of (get_or lines i 0) → len < length room → Going lines room₀ (set room len (16 * high + x)) (column + 1) 0 (len + 1) (i + 1)
        put x q r =
            let y = 16 * high + digit_of (get_or lines i 0) in
            rw q
            (record {
              done = g.done ++ (y ∷ []);
              wrote = byte g.wrote y (omega (arith, g.wrote.count, length-append g.done (y ∷ []), room_kept));
              digit = lit≤ tt;
              place = omega arith;
              narrow = omega (arith, g.narrow);
              all = one_more;
            })

        pub too_long : length room ≤ len → length room₀ < length (restored lines)
        too_long r = rw one_more (rw (length-append, length-append) (omega (arith, g.wrote.count, room_kept)))

  pub all_read : length lines ≤ i → Writes (restored lines) room₀ len room
  unfolding restored_from
  all_read h =
      let e : restored lines ≡ g.done = g.all ∙ rw (drop_of_length-le lines h) (append-nil g.done) in
      rw e g.wrote
