-- The first bytes below 40 by their low three bits, and what each return of the code comes to.
use Rattle.std.specs.Prelude.{Err}
use Rattle.sheet.specs.declared.Refusal.TheVariants.{UnknownInstruction}
use Prim.Native.Nat.{ℕ, zero-le, ◌/◌, ◌%◌, ◌≤◌, ◌<◌}
use mathlib.Core.Path.{◌≡◌, refl, ◌∙◌}
use mathlib.Core.Bool.{not, ◌&&◌}
use native.Mathlib.Omega.{arith}
use lib.Dec.{eqb, ltb}
use borrow.Author.Tests.{eq-eqb, ne_eqb, lt-ltb, le-ltb}
use Rattle.sheet.specs.declared.Place.{Place}
use Rattle.sheet.specs.declared.Place.TheVariants.{Register}
use Rattle.sheet.specs.declared.Source.TheVariants.{Immediate, Held}
use Rattle.sheet.specs.declared.Operation.{Operation}
use Rattle.sheet.specs.declared.Arithmetic.TheVariants.{Two}
use Rattle.sheet.specs.declared.Stack.TheVariants.{PushSegment, PopSegment}
use Rattle.sheet.specs.declared.Prefixes.{Prefixes}
use Rattle.sheet.specs.declared.Instr.{Instr}
use Rattle.sheet.specs.Groups.{Calculates, Stacks}
use Rattle.sheet.specs.Width.{pick}
use Rattle.sheet.specs.Registers.{AW}
use Rattle.sheet.specs.Reading.{Reading, got, no, immediate}
use Rattle.sheet.specs.Encoding.{W, look_up}
use Rattle.sheet.specs.FirstByte.{operation_at, two_places, with_place, with_acc, bytes00}
use Rattle.base_laws.proofs.Table.{agree}
use Rattle.code_answer.specs.Answer.{Answer, known_as, Takes, Decodes, Names}
use Rattle.code_answer.proofs.DecodesLaws.{decodes_as, decodes_no, decodes_known}
use Rattle.code_answer.proofs.FollowLaws.{with_acc_lem}
use Rattle.code_operand.specs.Operands.{Operands}
use Rattle.code_operand.proofs.OperandsLaws.{with_place_lem}

-- ---- columns of the table

-- codes 0 to 3, 4 and 5, 6, and 7, of which 0F and those from 20 on are as the table has them
abbrev columns : Prefixes → ℕ → Reading Instr
columns p b =
    pick (ltb (b % 8) 4) (with_place p (λ reg a. got (two_places (operation_at (b / 8)) b reg a)))
    (pick (ltb (b % 8) 6) (with_acc (λ v. Calculates (Two (operation_at (b / 8)) (W b) (Register AW) v)) (W b))
    (pick (eqb (b % 8) 6) (pick (ltb b 0x20) (got (Stacks (PushSegment (b / 8)))) (no 3))
    (pick (ltb b 0x20 && not (eqb b 0x0f)) (got (Stacks (PopSegment (b / 8)))) (look_up (bytes00 p) b))))

by_column : (p : Prefixes) (b : ℕ) → b < 0x40 → look_up (bytes00 p) b ≡ columns p b
unfolding look_up operation_at
by_column p b h = agree (look_up (bytes00 p)) (columns p) (no 3) 0 0x40 b refl zero-le h

column6 : (p : Prefixes) (b : ℕ) → b < 0x40 → b % 8 ≡ 6 → look_up (bytes00 p) b ≡ pick (ltb b 0x20) (got (Stacks (PushSegment (b / 8)))) (no 3)
column6 p b h k = by_column p b h ∙ rw (le-ltb (b % 8) 4 (omega arith), le-ltb (b % 8) 6 (omega arith), eq-eqb (b % 8) 6 k)

module _ (p : Prefixes) {b : ℕ} {src : ℕ → ℕ} {i : ℕ} (h : b < 0x40) where
  pub at_places : {op : Operation} {r : Answer Instr} → b % 8 < 4 → op ≡ operation_at (b / 8) → Decodes (with_place p (λ reg a. got (two_places op b reg a))) src i r → Names (bytes00 p) b src i r
  at_places k e x = record { is = decodes_as (by_column p b h ∙ rw (lt-ltb (b % 8) 4 k)) (rw e at x) }

  -- the accumulator and an immediate
  pub at_acc : {op : Operation} {j v : ℕ} {r : Answer Instr} → 4 ≤ b % 8 → b % 8 < 6 → op ≡ operation_at (b / 8) → Takes ℕ (immediate (W b)) src i v j 2
      → r ≡ known_as (Calculates (Two op (W b) (Register AW) (Immediate v))) j → Names (bytes00 p) b src i r
  at_acc {op} l k e x q =
      record { is = decodes_as (by_column p b h ∙ rw (le-ltb (b % 8) 4 l, lt-ltb (b % 8) 6 k)) (rw e at (with_acc_lem (W b) (λ s. Calculates (Two op (W b) (Register AW) s)) x q)) }

  pub at_segment : {r : Answer Instr} → b % 8 ≡ 6 → b < 0x20 → r ≡ known_as (Stacks (PushSegment (b / 8))) i → Names (bytes00 p) b src i r
  at_segment k l e = record { is = decodes_as (column6 p b h k ∙ rw (lt-ltb b 0x20 l)) (decodes_known e) }

  pub at_pop : {r : Answer Instr} → b % 8 ≡ 7 → (b ≡ 0x0f → ⊥) → b < 0x20 → r ≡ known_as (Stacks (PopSegment (b / 8))) i → Names (bytes00 p) b src i r
  at_pop k f l e =
      let t = ne_eqb (b % 8) 6 (λ q. omega arith) in
      record { is = decodes_as (by_column p b h ∙ rw (le-ltb (b % 8) 4 (omega arith), le-ltb (b % 8) 6 (omega arith), t, lt-ltb b 0x20 l, ne_eqb b 0x0f f)) (decodes_known e) }

  pub at_prefix : b % 8 ≡ 6 → 0x20 ≤ b → Names (bytes00 p) b src i (Err UnknownInstruction)
  at_prefix k l = record { is = decodes_as (column6 p b h k ∙ rw (le-ltb b 0x20 l)) decodes_no }

-- ---- two places

module _ {p : Prefixes} {src : ℕ → ℕ} {i reg j : ℕ} {a : Place} (o : Operands p src i reg a j) (op : Operation) (b : ℕ) {r : Answer Instr} where
  pub to_register : b / 2 % 2 ≡ 1 → r ≡ known_as (Calculates (Two op (W b) (Register reg) (Held a))) j → Decodes (with_place p (λ reg a. got (two_places op b reg a))) src i r
  to_register h e = with_place_lem o _ (decodes_known (rw (eq-eqb (b / 2 % 2) 1 h) e))

  pub to_place : (b / 2 % 2 ≡ 1 → ⊥) → r ≡ known_as (Calculates (Two op (W b) a (Held (Register reg)))) j → Decodes (with_place p (λ reg a. got (two_places op b reg a))) src i r
  to_place h e = with_place_lem o _ (decodes_known (rw (ne_eqb (b / 2 % 2) 1 h) e))
