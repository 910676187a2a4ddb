-- What each return of the code comes to, over plain values.
use Rattle.sheet.specs.declared.Instr.{Instr}
use Rattle.std.specs.Prelude.{Err}
use Rattle.sheet.specs.declared.Refusal.TheVariants.{UnknownInstruction}
use Prim.Native.Nat.{ℕ, ◌+◌, ◌≤◌, ◌<◌}
use mathlib.Core.Path.{◌≡◌, refl, sym, ◌∙◌}
use mathlib.Core.Bool.{Bool, true, false, not, ◌&&◌}
use native.Mathlib.Omega.{arith}
use lib.Dec.{eqb, ltb}
use borrow.Author.Tests.{eq-eqb, ne_eqb, eqb-true, eqb-false, lt-ltb, le-ltb}
use Rattle.sheet.specs.declared.Place.{Place}
use Rattle.sheet.specs.declared.Prefixes.{Prefixes}
use Rattle.sheet.specs.declared.Source.TheVariants.{Immediate}
use Rattle.sheet.specs.declared.Operation.{Operation}
use Rattle.sheet.specs.declared.Arithmetic.TheVariants.{Two}
use Rattle.sheet.specs.declared.Transfer.TheVariants.{FromSegment, ToSegment}
use Rattle.sheet.specs.Groups.{Transfers, Calculates}
use Rattle.sheet.specs.Width.{pick}
use Rattle.sheet.specs.Registers.{in_ps}
use Rattle.sheet.specs.Reading.{byte, word, signed_byte}
use Rattle.sheet.specs.Encoding.{W, reg_field}
use Rattle.sheet.specs.FirstByte.{operation_at, small_immediate, with_immediate, from_segment, to_segment, bytes80}
use Rattle.sheet.specs.Contract.{Reads}
use Rattle.sheet.proofs.ReadingLaws.{read_true, read_false}
use Rattle.code_answer.specs.Answer.{Answer, known_as, Takes, Decodes, Names}
use Rattle.code_answer.proofs.DecodesLaws.{decodes_seq, decodes_allowed, decodes_barred, decodes_known}
use Rattle.code_answer.proofs.CodeLaws.{at_one}
use Rattle.code_operand.specs.Operands.{Operands}
use Rattle.code_operand.proofs.OperandsLaws.{with_place_lem}

module _ {src : ℕ → ℕ} {i : ℕ} where
  pub small_word : (b v : ℕ) → b ≡ 0x81 → Reads ℕ word src i v (i + 2) → Takes ℕ (small_immediate b) src i v (i + 2) 2
  unfolding small_immediate
  small_word b v e x = record { reads = read_true _ _ (eq-eqb b 0x81 e) x; most = omega arith }

  pub small_signed : (b v : ℕ) → (b ≡ 0x81 → ⊥) → b ≡ 0x83 → Reads ℕ signed_byte src i v (i + 1) → Takes ℕ (small_immediate b) src i v (i + 1) 2
  unfolding small_immediate
  small_signed b v f e x = record { reads = read_false _ _ (ne_eqb b 0x81 f) (read_true _ _ (eq-eqb b 0x83 e) x); most = omega arith }

  pub small_byte : (b v : ℕ) → (b ≡ 0x81 → ⊥) → (b ≡ 0x83 → ⊥) → Reads ℕ byte src i v (i + 1) → Takes ℕ (small_immediate b) src i v (i + 1) 2
  unfolding small_immediate
  small_byte b v f e x = record { reads = read_false _ _ (ne_eqb b 0x81 f) (read_false _ _ (ne_eqb b 0x83 e) x); most = omega arith }

module _ {p : Prefixes} {src : ℕ → ℕ} {i reg j : ℕ} {a : Place} (o : Operands p src i reg a j) {r : Answer Instr} where
  pub with_immediate_lem : (b v k : ℕ) (op : Operation) → op ≡ operation_at reg → Takes ℕ (small_immediate b) src j v k 2 → r ≡ known_as (Calculates (Two op (W b) a (Immediate v))) k → Decodes (with_immediate p b) src i r
  unfolding with_immediate
  with_immediate_lem b v k op h x e = with_place_lem o _ (decodes_seq _ x.reads (decodes_known (rw h at e)))

  from_segment_lem : reg < 4 → r ≡ known_as (Transfers (FromSegment a reg)) j → Decodes (from_segment p) src i r
  unfolding from_segment
  from_segment_lem h e = decodes_seq _ o.code (decodes_allowed _ (lt-ltb (reg_field o.m) 4 (rw o.field at h)) (decodes_seq _ o.named (decodes_known (rw o.field at e))))

  to_segment_lem : reg < 4 → (reg ≡ in_ps → ⊥) → r ≡ known_as (Transfers (ToSegment reg a)) j → Decodes (to_segment p) src i r
  unfolding to_segment
  to_segment_lem h f e =
      let t : (ltb (reg_field o.m) 4 && not (eqb (reg_field o.m) in_ps)) ≡ true = rw (lt-ltb (reg_field o.m) 4 (rw o.field at h), ne_eqb (reg_field o.m) in_ps (λ q. f (o.field ∙ q))) in
      decodes_seq _ o.code (decodes_allowed _ t (decodes_seq _ o.named (decodes_known (rw o.field at e))))

  pub segment_loaded : {load : Bool} → load ≡ true → reg < 4 → (reg ≡ in_ps → ⊥) → r ≡ known_as (Transfers (ToSegment reg a)) j → Decodes (pick load (to_segment p) (from_segment p)) src i r
  segment_loaded l h f e = rw l (to_segment_lem h f e)

  pub segment_stored : {load : Bool} → load ≡ false → reg < 4 → r ≡ known_as (Transfers (FromSegment a reg)) j → Decodes (pick load (to_segment p) (from_segment p)) src i r
  segment_stored l h e = rw l (from_segment_lem h e)

module _ {p : Prefixes} {src : ℕ → ℕ} {i reg j : ℕ} {a : Place} (o : Operands p src i reg a j) where
  pub no_segment : (load : Bool) → 4 ≤ reg → Decodes (pick load (to_segment p) (from_segment p)) src i (Err UnknownInstruction)
  unfolding from_segment to_segment
  no_segment true h = decodes_seq _ o.code (decodes_barred _ (rw (le-ltb (reg_field o.m) 4 (rw o.field at h))))
  no_segment false h = decodes_seq _ o.code (decodes_barred _ (le-ltb (reg_field o.m) 4 (rw o.field at h)))

  to_ps : reg < 4 → reg ≡ in_ps → Decodes (to_segment p) src i (Err UnknownInstruction)
  unfolding to_segment
  to_ps h f = decodes_seq _ o.code (decodes_barred _ (rw (lt-ltb (reg_field o.m) 4 (rw o.field at h), eq-eqb (reg_field o.m) in_ps (sym o.field ∙ f))))

  pub ps_loaded : {load : Bool} → load ≡ true → reg < 4 → reg ≡ in_ps → Decodes (pick load (to_segment p) (from_segment p)) src i (Err UnknownInstruction)
  ps_loaded l h f = rw l (to_ps h f)

-- 8C and 8E
pub at_segment : (p : Prefixes) {b : ℕ} {src : ℕ → ℕ} {i : ℕ} {r : Answer Instr} → 0x8c ≤ b → b < 0x90 → (b ≡ 0x8d → ⊥) → (b ≡ 0x8f → ⊥) → Decodes (pick (eqb b 0x8e) (to_segment p) (from_segment p)) src i r → Names (bytes80 p) b src i r
at_segment p {b} {src} {i} {r} h k f g x = go (eqb b 0x8e) refl x
  where
    go : (c : Bool) → eqb b 0x8e ≡ c → Decodes (pick c (to_segment p) (from_segment p)) src i r → Names (bytes80 p) b src i r
    go true q x = at_one 0x8e refl refl (eqb-true b 0x8e q) x
    go false q x = let z = eqb-false b 0x8e q in at_one 0x8c refl refl (omega (arith, f, g, z)) x
