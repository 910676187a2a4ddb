-- Prefixes before an instruction.
use Prim.Native.Nat.{ℕ, zero, suc, ◌+◌, ◌-◌, ◌≤◌}
use mathlib.Core.Path.{◌≡◌, refl, ap}
use mathlib.Core.List.{[], ◌∷◌}
use Rattle.std.specs.Prelude.{Option, None, Some, unwrap_or, Result, Ok, Err}
use Rattle.sheet.specs.declared.Instr.{Instr}
use Rattle.sheet.specs.declared.Refusal.{Refusal}
use Rattle.sheet.specs.declared.Refusal.TheVariants.{FourthPrefix}
use native.Mathlib.Omega.{arith}
use borrow.Author.Tests.{ne_eqb}
use Rattle.sheet.specs.declared.Prefixes.{Prefixes}
use Rattle.sheet.specs.Reading.{byte}
use Rattle.sheet.specs.Encoding.{Prefix, prefix_of, with_prefix}
use Rattle.sheet.specs.FirstByte.{first_bytes, after_prefix, prefixed}
use Rattle.sheet.specs.Contract.{Reads}
use Rattle.code_answer.specs.Answer.{Answer, Decodes, Names}
use Rattle.code_answer.proofs.DecodesLaws.{decodes_fourth, decodes_seq}
use Rattle.code_answer.proofs.CodeLaws.{Left}
use Rattle.code_prefix.specs.Found.{found}
use Rattle.code_prefix.specs.declared.Opening.{Opening}
use Rattle.code_prefix.specs.Opening.{Opened, Opens}

pub no_prefix : (p : Prefixes) (b : ℕ) → Left Unit ((0x26 ∷ []) ∷ (0x2e ∷ []) ∷ (0x36 ∷ []) ∷ (0x3e ∷ []) ∷ (0x64 ∷ []) ∷ (0x65 ∷ []) ∷ (0xf0 ∷ []) ∷ (0xf2 ∷ []) ∷ (0xf3 ∷ []) ∷ []) b → found None p ≡ found (prefix_of b) p
unfolding prefix_of
no_prefix p b (((((((((u, e), f), g), h), i), j), k), l), m) =
    rw (ne_eqb b 0x26 e, ne_eqb b 0x2e f, ne_eqb b 0x36 g, ne_eqb b 0x3e h, ne_eqb b 0x64 i, ne_eqb b 0x65 j, ne_eqb b 0xf0 k, ne_eqb b 0xf2 l, ne_eqb b 0xf3 m)

-- what the code's answer says of a byte
none_of : (o : Option Prefix) (p : Prefixes) → None ≡ found o p → o ≡ None
unfolding found
none_of None p e = refl
none_of (Some q) p e = cc

some_of : (o : Option Prefix) (p q : Prefixes) → Some q ≡ found o p → (x : Prefix) × (o ≡ Some x) × (q ≡ with_prefix p x)
unfolding found
some_of None p q e = cc
some_of (Some x) p q e = (x, refl, ap (λ s. unwrap_or s p) e)

module _ (p : Prefixes) (b : ℕ) {src : ℕ → ℕ} {i : ℕ} (x : Reads ℕ byte src i b (i + 1)) (most : i ≤ 3) where
  pub no_more : None ≡ found (prefix_of b) p → Opens p src i (Ok (record { prefixes = p; byte = b; next = i + 1 }))
  unfolding prefixed after_prefix
  no_more h = record { is = record { within = omega arith; decided = λ r y. go (3 - i) r y } }
    where
      go : (room : ℕ) (r : Answer Instr) → Names (first_bytes p) b src (i + 1) r → Decodes (prefixed room p) src i r
      go zero r y = decodes_seq _ x (rw (none_of (prefix_of b) p h) y.is)
      go (suc room) r y = decodes_seq _ x (rw (none_of (prefix_of b) p h) y.is)

  module _ {q : Prefixes} (h : Some q ≡ found (prefix_of b) p) where
    pub too_many : i ≡ 3 → Opens p src i (Err FourthPrefix)
    unfolding prefixed after_prefix
    too_many k =
        let (y, f, g) = some_of (prefix_of b) p q h in
        let l : 3 - i ≡ 0 = omega arith in
        let z : Decodes (prefixed 0 p) src i (Err FourthPrefix) = decodes_seq _ x (rw f decodes_fourth) in
        record { is = (refl, rw l z) }

    one_more : (r : Answer Instr) → (i ≡ 3 → ⊥) → Decodes (prefixed (3 - (i + 1)) q) src (i + 1) r → Decodes (prefixed (3 - i) p) src i r
    unfolding prefixed after_prefix
    one_more r k y =
        let (z, f, g) = some_of (prefix_of b) p q h in
        let m : 3 - i ≡ suc (3 - (i + 1)) = omega (arith, k) in
        rw m (decodes_seq _ x (rw f (rw g at y)))

    pub more : {s : Result Opening Refusal} → (i ≡ 3 → ⊥) → Opens q src (i + 1) s → Opens p src i s
    more {s = s} k y = record { is = go s y.is }
      where
        go : (s : Result Opening Refusal) → Opened q src (i + 1) s → Opened p src i s
        go (Ok o) z = record { within = z.within; decided = λ r n. one_more r k (z.decided r n) }
        go (Err e) z = (z.0, one_more (Err e) k z.1)
