-- How an answer follows from those of the parts that a reading has.
use Prim.Native.Nat.{ℕ}
use mathlib.Core.Path.{◌≡◌, refl, ◌∙◌, ap}
use mathlib.Core.Bool.{Bool, true, false}
use Rattle.std.specs.Prelude.{Result, Ok, Err, IsErrAnd}
use Rattle.sheet.specs.declared.Refusal.{Refusal}
use Rattle.sheet.specs.declared.Refusal.TheVariants.{UnknownInstruction, FourthPrefix}
use Rattle.sheet.specs.Refusals.{refusal_number}
use Rattle.sheet.specs.Reading.{Reading, got, no, ◌>>=◌, Read, known, unknown, scan, allow}
use Rattle.sheet.specs.Contract.{Reads, Refuses}
use Rattle.sheet.proofs.ReadingLaws.{scan_bind, reads_allowed, refuses_allowed}
use Rattle.code_answer.specs.declared.Decoded.{Decoded}
use Rattle.code_answer.specs.Answer.{Answer, known_as, answer_of, Decodes}

-- what was read, but for the place of a refusal
abbrev read_of : {I : Type 0} → Result (Decoded I) ℕ → Read I
read_of (Ok d) = known d.instr d.size
read_of (Err n) = unknown n 0

-- what a `?` returns for a refusal
abbrev pub Exits : {I : Type 0} → Answer I → Refusal → Type 0
Exits r e = IsErrAnd r (λ f. f ≡ e)

module _ {I : Type 0} {src : ℕ → ℕ} {i : ℕ} where
  -- and what its refusal was
  pub left_by : {p : Reading I} {r : Answer I} {d e : Refusal} → Exits r e → e ≡ d → Decodes p src i (Err d) → Decodes p src i r
  left_by {p} {r} {d} {e} x q h = go r x
    where
      go : (s : Answer I) → Exits s e → Decodes p src i s
      go (Ok a) x = absurd x
      go (Err f) x = rw (x ∙ q) h

  pub decodes_got : {a : I} → Decodes (got a) src i (known_as a i)
  unfolding scan
  decodes_got = record { is = refl }

  pub decodes_no : Decodes {I = I} (no 3) src i (Err UnknownInstruction)
  unfolding scan
  decodes_no = record { is = refl }

  pub decodes_fourth : Decodes {I = I} (no 4) src i (Err FourthPrefix)
  unfolding scan
  decodes_fourth = record { is = refl }

  module _ {A : Type 0} {p : Reading A} (f : A → Reading I) where
    pub decodes_seq : {j : ℕ} {a : A} {r : Answer I} → Reads A p src i a j → Decodes (f a) src j r → Decodes (p >>= f) src i r
    decodes_seq x y = record { is = ap answer_of (scan_bind p f src i) ∙ rw (x.is, y.is) }

    pub decodes_refused_by : (e : Refusal) → Refuses A p src i (refusal_number e) → Decodes (p >>= f) src i (Err e)
    decodes_refused_by e x = record { is = ap answer_of (scan_bind p f src i) ∙ rw x.is }

    pub decodes_refused : Refuses A p src i 3 → Decodes (p >>= f) src i (Err UnknownInstruction)
    decodes_refused x = decodes_refused_by UnknownInstruction x

  -- what a test that is known leaves
  pub decodes_allowed : {b : Bool} (f : Unit → Reading I) {r : Answer I} → b ≡ true → Decodes (f tt) src i r → Decodes (allow b >>= f) src i r
  decodes_allowed f e x = decodes_seq f (reads_allowed e) x

  pub decodes_barred : {b : Bool} (f : Unit → Reading I) → b ≡ false → Decodes (allow b >>= f) src i (Err UnknownInstruction)
  decodes_barred f e = decodes_refused f (refuses_allowed e)

  -- answers that are equal, readings that are equal
  pub decodes_to : {p : Reading I} {r s : Answer I} → r ≡ s → Decodes p src i s → Decodes p src i r
  decodes_to e x = rw e x

  pub decodes_as : {p q : Reading I} {r : Answer I} → p ≡ q → Decodes q src i r → Decodes p src i r
  decodes_as e x = rw e x

  -- nothing follows
  pub decodes_known : {a : I} {r : Answer I} → r ≡ known_as a i → Decodes (got a) src i r
  decodes_known e = decodes_to e decodes_got

  -- what an answer says of the reading
  pub known_reads : {p : Reading I} (a : I) (n : ℕ) → Decodes p src i (known_as a n) → Reads I p src i a n
  known_reads {p} a n x = record { is = go (scan p src i) x.is }
    where
      go : (s : Read I) → answer_of s ≡ Ok (record { instr = a; size = n }) → s ≡ known a n
      go (known b m) e = ap read_of e
      go (unknown b m) e = cc

  pub unknown_refuses : {p : Reading I} (e : Refusal) → Decodes p src i (Err e) → Refuses I p src i (refusal_number e)
  unknown_refuses {p} e x = go (scan p src i) refl x.is
    where
      go : (s : Read I) → scan p src i ≡ s → answer_of s ≡ Err (refusal_number e) → Refuses I p src i (refusal_number e)
      go (known b m) q f = let z : ◌≡◌ {A = Read I} (known b m) (unknown (refusal_number e) m) = cc in record { at = m; is = q ∙ z }
      go (unknown b m) q f = let z : ◌≡◌ {A = Read I} (unknown b m) (unknown (refusal_number e) m) = cc in record { at = m; is = q ∙ z }
