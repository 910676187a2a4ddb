-- What the groups by the reg field come to, over plain values.
use Rattle.std.specs.Prelude.{Ok, Err}
use Rattle.sheet.specs.declared.Refusal.{Refusal}
use Rattle.sheet.specs.declared.Refusal.TheVariants.{UnknownInstruction}
use Prim.Native.Nat.{ℕ, ◌+◌, ◌≤◌, ◌<◌}
use mathlib.Core.Path.{◌≡◌, refl}
use mathlib.Core.Logic.{◌⊎◌, inl, inr}
use mathlib.Core.Bool.{Bool, true, false}
use mathlib.Core.List.{[]}
use native.Mathlib.Omega.{arith}
use lib.Dec.{eqb}
use borrow.Author.Tests.{eqb-true, eqb-false}
use Rattle.sheet.specs.declared.Address.{Address}
use Rattle.sheet.specs.declared.Place.{Place}
use Rattle.sheet.specs.declared.Prefixes.{Prefixes}
use Rattle.sheet.specs.declared.Unary.TheVariants.{Inc, Dec}
use Rattle.sheet.specs.declared.Arithmetic.TheVariants.{One}
use Rattle.sheet.specs.declared.Branch.TheVariants.{CallFarAt, BrFarAt}
use Rattle.sheet.specs.declared.Instr.{Instr}
use Rattle.sheet.specs.Groups.{Calculates, Branches}
use Rattle.sheet.specs.Width.{pick}
use Rattle.sheet.specs.Reading.{got, ◌>>=◌, immediate}
use Rattle.sheet.specs.Encoding.{place}
use Rattle.sheet.specs.FirstByte.{group_fe, group_ff, bytes_c0}
use Rattle.code_answer.specs.Answer.{Answer, known_as, Takes, Decodes, Names}
use Rattle.code_answer.proofs.DecodesLaws.{Exits, decodes_seq, decodes_known}
use Rattle.code_answer.proofs.CodeLaws.{at_one, at_rest}
use Rattle.code_operand.specs.Operands.{Operands, memory_of}
use Rattle.code_operand.proofs.OperandsLaws.{by_field, field_below, of_place, of_memory, of_register}

-- a place and an immediate
pub of_immediate : {p : Prefixes} {src : ℕ → ℕ} {i reg j n v : ℕ} {a : Place} {r : Answer Instr} (o : Operands p src i reg a j) (w : Bool) (k : Place → ℕ → Instr) → Takes ℕ (immediate w) src j v n 2 → r ≡ known_as (k a v) n
    → Decodes (place p o.m >>= (λ x. immediate w >>= (λ y. got (k x y)))) src (i + 1) r
of_immediate o w k x e = decodes_seq _ o.named (decodes_seq _ x.reads (decodes_known e))

-- ---- FE and FF

pub at_fe : (p : Prefixes) {b : ℕ} {src : ℕ → ℕ} {i : ℕ} {r : Answer Instr} → 0xfe ≤ b → b < 0x100 → Decodes (pick (eqb b 0xff) (group_ff p) (group_fe p)) src i r → Names (bytes_c0 p) b src i r
at_fe p {b} {src} {i} {r} h k x = go (eqb b 0xff) refl x
  where
    go : (c : Bool) → eqb b 0xff ≡ c → Decodes (pick c (group_ff p) (group_fe p)) src i r → Names (bytes_c0 p) b src i r
    go true q x = at_one 0xff refl refl (eqb-true b 0xff q) x
    go false q x = let z = eqb-false b 0xff q in at_one 0xfe refl refl (omega (arith, z)) x

module _ {p : Prefixes} {src : ℕ → ℕ} {i reg j : ℕ} {a : Place} (o : Operands p src i reg a j) where
  pub counts_up : (w : Bool) {r : Answer Instr} → reg ≡ 0 → r ≡ known_as (Calculates (One Inc w a)) j → Decodes (pick w (group_ff p) (group_fe p)) src i r
  unfolding group_fe group_ff
  counts_up true h e = by_field o _ (at_one 0 refl refl h (of_place o _ e))
  counts_up false h e = by_field o _ (at_one 0 refl refl h (of_place o _ e))

  pub counts_down : (w : Bool) {r : Answer Instr} → reg ≡ 1 → r ≡ known_as (Calculates (One Dec w a)) j → Decodes (pick w (group_ff p) (group_fe p)) src i r
  unfolding group_fe group_ff
  counts_down true h e = by_field o _ (at_one 1 refl refl h (of_place o _ e))
  counts_down false h e = by_field o _ (at_one 1 refl refl h (of_place o _ e))

  pub no_byte : (w : Bool) → w ≡ false → 2 ≤ reg → Decodes (pick w (group_ff p) (group_fe p)) src i (Err UnknownInstruction)
  unfolding group_fe
  no_byte w e h = rw e (by_field o _ (at_rest 2 6 [] refl tt h (field_below o)))

  pub for_words : (w : Bool) {r : Answer Instr} → w ≡ true → Decodes (group_ff p) src i r → Decodes (pick w (group_ff p) (group_fe p)) src i r
  for_words w e x = rw e x

  pub call_far : (b : Address) {r : Answer Instr} → reg ≡ 3 → Ok b ≡ memory_of a → r ≡ known_as (Branches (CallFarAt b)) j → Decodes (group_ff p) src i r
  unfolding group_ff
  call_far b h e f = by_field o _ (at_one 3 refl refl h (of_memory o _ b e f))

  pub branch_far : (b : Address) {r : Answer Instr} → reg ≡ 5 → Ok b ≡ memory_of a → r ≡ known_as (Branches (BrFarAt b)) j → Decodes (group_ff p) src i r
  unfolding group_ff
  branch_far b h e f = by_field o _ (at_one 5 refl refl h (of_memory o _ b e f))

  -- both are refused for a register
  pub no_far : (e : Refusal) {r : Answer Instr} → (reg ≡ 3) ⊎ (reg ≡ 5) → Err e ≡ memory_of a → Exits r e → Decodes (group_ff p) src i r
  unfolding group_ff
  no_far e (inl h) z x = by_field o _ (at_one 3 refl refl h (of_register o _ e z x))
  no_far e (inr h) z x = by_field o _ (at_one 5 refl refl h (of_register o _ e z x))
