-- What each return of the code comes to, over plain values.
use Rattle.std.specs.Prelude.{Ok, Err}
use Rattle.sheet.specs.declared.Refusal.{Refusal}
use Rattle.sheet.specs.declared.Refusal.TheVariants.{UnknownInstruction}
use Prim.Native.Nat.{ℕ, ◌+◌, ◌/◌, ◌%◌, ◌≤◌, ◌<◌}
use mathlib.Core.Path.{◌≡◌, refl, ◌∙◌}
use mathlib.Core.Bool.{Bool, true, false, ◌&&◌}
use mathlib.Core.List.{[], ◌∷◌}
use native.Mathlib.Nat.{add_assoc}
use native.Mathlib.Omega.{arith}
use lib.Dec.{eqb, ltb}
use lib.ListN.{get_or}
use borrow.Author.Tests.{eq-eqb, ne_eqb, eqb-true, lt-ltb, le-ltb}
use Rattle.sheet.specs.declared.Place.{Place}
use Rattle.sheet.specs.declared.Amount.TheVariants.{InCl, Given}
use Rattle.sheet.specs.declared.Bit.{Bit}
use Rattle.sheet.specs.declared.Bit.TheVariants.{Test1, Clr1, Set1, Not1}
use Rattle.sheet.specs.declared.Length.{Length}
use Rattle.sheet.specs.declared.Length.TheVariants as lengths
use Rattle.sheet.specs.declared.Prefixes.{Prefixes}
use Rattle.sheet.specs.declared.Instr.{Instr}
use Rattle.sheet.specs.Groups.{Bits}
use Rattle.sheet.specs.Width.{pick}
use Rattle.sheet.specs.Reading.{got, no, byte}
use Rattle.sheet.specs.Encoding.{W, mod_field, reg_field, look_up}
use Rattle.sheet.specs.SecondByte.{bit_in_cl, bit_given, field_in_register, field_given, second_bytes}
use Rattle.sheet.specs.Contract.{Reads}
use Rattle.base_laws.proofs.Table.{agree}
use Rattle.code_answer.specs.Answer.{Answer, known_as, Decodes, Names}
use Rattle.code_answer.proofs.DecodesLaws.{Exits, decodes_as, decodes_seq, decodes_allowed, decodes_barred, decodes_known}
use Rattle.code_answer.proofs.CodeLaws.{not_both, Left}
use Rattle.code_operand.specs.Operands.{Operands, plain_of}
use Rattle.code_operand.proofs.OperandsLaws.{field_is_0, plain_reads, of_plain, not_plain_first, not_plain}

-- ---- one bit of a place

-- the operations in the order of their codes
abbrev pub bit_at : ℕ → Bit
bit_at n = get_or (Test1 ∷ Clr1 ∷ Set1 ∷ Not1 ∷ []) n Not1

pub last_bit : (b : ℕ) → Left Unit ((0 ∷ []) ∷ (1 ∷ []) ∷ (2 ∷ []) ∷ []) (b / 2 % 4) → Not1 ≡ bit_at (b / 2 % 4)
last_bit b (((u, f), g), h) = let e : b / 2 % 4 ≡ 3 = omega (arith, f, g, h) in rw e

bit_rows : (p : Prefixes) (b : ℕ) → 0x10 ≤ b → b < 0x20 → look_up (second_bytes p) b ≡ pick (ltb b 0x18) (bit_in_cl p (bit_at (b / 2 % 4)) b) (bit_given p (bit_at (b / 2 % 4)) b)
unfolding look_up bit_in_cl bit_given
bit_rows p b l h = agree (look_up (second_bytes p)) (λ b. pick (ltb b 0x18) (bit_in_cl p (bit_at (b / 2 % 4)) b) (bit_given p (bit_at (b / 2 % 4)) b)) (no 3) 0x10 0x10 b refl l h

module _ {p : Prefixes} {src : ℕ → ℕ} {i reg j b : ℕ} {a : Place} (o : Operands p src i reg a j) (l : 0x10 ≤ b) (h : b < 0x20) where
  pub in_cl : {op : Bit} {t : Place} {r : Answer Instr} → Ok t ≡ plain_of reg a → op ≡ bit_at (b / 2 % 4) → b < 0x18 → r ≡ known_as (Bits op (W b) t InCl) j → Names (second_bytes p) b src i r
  unfolding bit_in_cl
  in_cl z q k e = record { is = decodes_as {q = bit_in_cl p (bit_at (b / 2 % 4)) b} (bit_rows p b l h ∙ rw (lt-ltb b 0x18 k)) (of_plain o _ _ z (rw q at e)) }

  pub given : {op : Bit} {t : Place} {v k : ℕ} {r : Answer Instr} → Ok t ≡ plain_of reg a → op ≡ bit_at (b / 2 % 4) → 0x18 ≤ b → Reads ℕ byte src j v k → r ≡ known_as (Bits op (W b) t (Given v)) k → Names (second_bytes p) b src i r
  unfolding bit_given
  given z q k x e =
      let (f, g) = field_is_0 reg a _ z in
      record { is = decodes_as {q = bit_given p (bit_at (b / 2 % 4)) b} (bit_rows p b l h ∙ rw (le-ltb b 0x18 k)) (decodes_seq _ (plain_reads o f) (decodes_seq _ x (decodes_known (rw (q, g) at e)))) }

  pub no_bit : (e : Refusal) {r : Answer Instr} → Err e ≡ plain_of reg a → Exits r e → Names (second_bytes p) b src i r
  unfolding bit_in_cl bit_given
  no_bit e {r} z x = record { is = decodes_as (bit_rows p b l h) (go (ltb b 0x18)) }
    where
      go : (c : Bool) → Decodes (pick c (bit_in_cl p (bit_at (b / 2 % 4)) b) (bit_given p (bit_at (b / 2 % 4)) b)) src i r
      go true = not_plain o _ e z x
      go false = not_plain_first o _ e z x

-- ---- bit fields

module _ {src : ℕ → ℕ} {i j m : ℕ} (k : ℕ → Length → Instr) (x : Reads ℕ byte src i m j) where
  field_register : {r : Answer Instr} → m / 64 ≡ 3 → r ≡ known_as (k (m % 8) (lengths.InRegister (m / 8 % 8))) j → Decodes (field_in_register (λ o l. got (k o l))) src i r
  unfolding field_in_register
  field_register h e = decodes_seq _ x (decodes_allowed _ (eq-eqb (mod_field m) 3 h) (decodes_known e))

  no_register : (m / 64 ≡ 3 → ⊥) → Decodes (field_in_register (λ o l. got (k o l))) src i (Err UnknownInstruction)
  unfolding field_in_register
  no_register h = decodes_seq _ x (decodes_barred _ (ne_eqb (mod_field m) 3 h))

  field_given_lem : {n l : ℕ} {r : Answer Instr} → m / 8 ≡ 24 → Reads ℕ byte src j n l → r ≡ known_as (k (m % 8) (lengths.Given n)) l → Decodes (field_given (λ o l. got (k o l))) src i r
  unfolding field_given
  field_given_lem h y e =
      let f : mod_field m ≡ 3 = omega arith in
      let g : reg_field m ≡ 0 = omega arith in
      let t : (eqb (mod_field m) 3 && eqb (reg_field m) 0) ≡ true = rw (eq-eqb (mod_field m) 3 f, eq-eqb (reg_field m) 0 g) in
      decodes_seq _ x (decodes_allowed _ t (decodes_seq _ y (decodes_known e)))

  no_given : (m / 8 ≡ 24 → ⊥) → Decodes (field_given (λ o l. got (k o l))) src i (Err UnknownInstruction)
  unfolding field_given
  no_given h = decodes_seq _ x (decodes_barred _ (not_both (eqb (mod_field m) 3) (eqb (reg_field m) 0) (λ f g. h (omega (arith, eqb-true (mod_field m) 3 f, eqb-true (reg_field m) 0 g)))))

module _ {src : ℕ → ℕ} {i m : ℕ} (k : ℕ → Length → Instr) (x : Reads ℕ byte src i m (i + 1)) where
  pub no_field : (given : Bool) → (m / 64 ≡ 3 → ⊥) → Decodes (pick given (field_given (λ o l. got (k o l))) (field_in_register (λ o l. got (k o l)))) src i (Err UnknownInstruction)
  no_field true h = no_given k x (λ e. h (omega arith))
  no_field false h = no_register k x h

  pub no_length : {given : Bool} → given ≡ true → (m / 8 ≡ 24 → ⊥) → Decodes (pick given (field_given (λ o l. got (k o l))) (field_in_register (λ o l. got (k o l)))) src i (Err UnknownInstruction)
  no_length g h = rw g (no_given k x h)

  module _ {given : Bool} {next : ℕ} {a : Length} {r : Answer Instr} (s : next ≡ pick given (i + 2) (i + 1)) (e : r ≡ known_as (k (m % 8) a) next) where
    pub length_given : {n : ℕ} → given ≡ true → m / 8 ≡ 24 → Reads ℕ byte src (i + 1) n (i + 1 + 1) → a ≡ lengths.Given n → Decodes (pick given (field_given (λ o l. got (k o l))) (field_in_register (λ o l. got (k o l)))) src i r
    length_given g h y q = let z : next ≡ i + 2 = s ∙ rw g in rw g (field_given_lem k x h (rw (add_assoc i 1 1) at y) (rw (q, z) at e))

    pub length_held : given ≡ false → m / 64 ≡ 3 → a ≡ lengths.InRegister (m / 8 % 8) → Decodes (pick given (field_given (λ o l. got (k o l))) (field_in_register (λ o l. got (k o l)))) src i r
    length_held g h q = let z : next ≡ i + 1 = s ∙ rw g in rw g (field_register k x h (rw (q, z) at e))
