-- Instructions that a mod-reg-mem byte follows: what its fields and its operand decide.
use Prim.Native.Nat.{ℕ, ◌+◌, ◌<◌}
use mathlib.Core.Path.{◌≡◌, refl, sym, ◌∙◌}
use mathlib.Core.Bool.{Bool, true, false}
use mathlib.Core.List.{List}
use native.Mathlib.Omega.{arith}
use lib.Dec.{eqb}
use borrow.Author.Tests.{eqb-true, eqb-false, eq-eqb, ne_eqb, lt-ltb, le-ltb}
use Rattle.sheet.specs.declared.Address.{Address}
use Rattle.sheet.specs.declared.Place.{Place}
use Rattle.sheet.specs.declared.Place.TheVariants.{Register, Memory}
use Rattle.sheet.specs.declared.Prefixes.{Prefixes}
use Rattle.sheet.specs.declared.Instr.{Instr}
use Rattle.sheet.specs.declared.Refusal.{Refusal}
use Rattle.sheet.specs.declared.Refusal.TheVariants.{UnknownInstruction}
use Rattle.std.specs.Prelude.{Ok, Err}
use Rattle.sheet.specs.Width.{pick}
use Rattle.sheet.specs.Reading.{Reading, got, ◌>>=◌, Read, known, unknown, scan, byte}
use Rattle.sheet.specs.Encoding.{mod_field, reg_field, mem_field, address, in_memory, place, memory, Row, look_up}
use Rattle.sheet.specs.SecondByte.{plain_place, with_plain}
use Rattle.sheet.specs.FirstByte.{with_place, with_memory}
use Rattle.sheet.specs.Contract.{Reads, Refuses}
use Rattle.sheet.proofs.ReadingLaws.{reads_seq, refuses_seq, reads_then_refuses, reads_allowed, refuses_allowed, scan_bind, then_read}
use Rattle.code_answer.specs.Answer.{Answer, known_as, Decodes, Names}
use Rattle.code_answer.proofs.DecodesLaws.{Exits, left_by, decodes_known, decodes_got, decodes_to, decodes_seq, decodes_refused}
use Rattle.code_operand.specs.Operands.{Operands, memory_of, plain_of}

-- ---- an operand, and the fields of its byte

-- what was read as an operand in memory was read as its address
address_in : (s : Read Address) (src : ℕ → ℕ) (b : Address) (j : ℕ) → then_read s (λ a n. scan (got (Memory a)) src n) ≡ known (Memory b) j → s ≡ known b j
unfolding scan
address_in (known a n) src b j e = cc
address_in (unknown k n) src b j e = cc

register_out : (s : Read Address) (src : ℕ → ℕ) (n j : ℕ) → then_read s (λ a n. scan (got (Memory a)) src n) ≡ known (Register n) j → ⊥
unfolding scan
register_out (known a k) src n j e = let z : ◌≡◌ {A = ℕ} 0 1 = cc in omega arith
register_out (unknown a k) src n j e = let z : ◌≡◌ {A = ℕ} 0 1 = cc in omega arith

module _ (p : Prefixes) (m : ℕ) (src : ℕ → ℕ) (i : ℕ) (a : Place) (j : ℕ) (named : Reads Place (place p m) src i a j) where
  in_memory_lem : (b : Address) → a ≡ Memory b → (mod_field m ≡ 3 → ⊥) × Reads Address (address p (mod_field m) (mem_field m)) src i b j
  unfolding place in_memory scan
  in_memory_lem b e = go (eqb (mod_field m) 3) refl named.is
    where
      go : (c : Bool) → eqb (mod_field m) 3 ≡ c → scan (pick c (got (Register (mem_field m))) (in_memory p m)) src i ≡ known a j
          → (mod_field m ≡ 3 → ⊥) × Reads Address (address p (mod_field m) (mem_field m)) src i b j
      go true q f = let z : ◌≡◌ {A = ℕ} 0 1 = cc in absurd (omega arith)
      go false q f = (eqb-false (mod_field m) 3 q, record { is = address_in (scan (address p (mod_field m) (mem_field m)) src i) src b j (sym (scan_bind (address p (mod_field m) (mem_field m)) (λ x. got (Memory x)) src i) ∙ f ∙ rw e) })

  in_register : (n : ℕ) → a ≡ Register n → (mod_field m ≡ 3) × ((n ≡ mem_field m) × (j ≡ i))
  unfolding place in_memory scan
  in_register n e = go (eqb (mod_field m) 3) refl named.is
    where
      go : (c : Bool) → eqb (mod_field m) 3 ≡ c → scan (pick c (got (Register (mem_field m))) (in_memory p m)) src i ≡ known a j
          → (mod_field m ≡ 3) × ((n ≡ mem_field m) × (j ≡ i))
      go true q f = (eqb-true (mod_field m) 3 q, (cc, cc))
      go false q f = absurd (register_out (scan (address p (mod_field m) (mem_field m)) src i) src n j (sym (scan_bind (address p (mod_field m) (mem_field m)) (λ x. got (Memory x)) src i) ∙ f ∙ rw e))

-- ---- an operand that has to stand in memory, or whose reg field has to be 0

stands_in : (a : Place) (b : Address) → Ok b ≡ memory_of a → a ≡ Memory b
stands_in (Memory c) b e = cc
stands_in (Register n) b e = cc

stands_not : (a : Place) (e : Refusal) → Err e ≡ memory_of a → (n : ℕ) × (a ≡ Register n) × (e ≡ UnknownInstruction)
stands_not (Memory c) e h = cc
stands_not (Register n) e h = (n, refl, cc)

pub field_is_0 : (reg : ℕ) (a b : Place) → Ok b ≡ plain_of reg a → (reg ≡ 0) × (b ≡ a)
field_is_0 reg a b e = go (eqb reg 0) refl e
  where
    go : (c : Bool) → eqb reg 0 ≡ c → Ok b ≡ pick c (Ok a) (Err UnknownInstruction) → (reg ≡ 0) × (b ≡ a)
    go true q e = (eqb-true reg 0 q, cc)
    go false q e = cc

pub field_not_0 : (reg : ℕ) (a : Place) (e : Refusal) → Err e ≡ plain_of reg a → (reg ≡ 0 → ⊥) × (e ≡ UnknownInstruction)
field_not_0 reg a e h = go (eqb reg 0) refl h
  where
    go : (c : Bool) → eqb reg 0 ≡ c → Err e ≡ pick c (Ok a) (Err UnknownInstruction) → (reg ≡ 0 → ⊥) × (e ≡ UnknownInstruction)
    go true q h = cc
    go false q h = (eqb-false reg 0 q, cc)

-- ---- what follows a first byte

module _ {p : Prefixes} {src : ℕ → ℕ} {i reg j : ℕ} {a : Place} (o : Operands p src i reg a j) where
  pub with_place_lem : (k : ℕ → Place → Reading Instr) {r : Answer Instr} → Decodes (k reg a) src j r → Decodes (with_place p k) src i r
  unfolding with_place
  with_place_lem k x = decodes_seq _ o.code (decodes_seq _ o.named (rw o.field at x))

  -- where memory alone will do
  pub memory_reads : (b : Address) → a ≡ Memory b → Reads Address (memory p o.m) src (i + 1) b j
  unfolding memory
  memory_reads b e =
      let (h, x) = in_memory_lem p o.m src (i + 1) a j o.named b e in
      let l : o.m < 256 = o.below in
      reads_seq _ (reads_allowed (lt-ltb (mod_field o.m) 3 (omega (arith, h)))) x

  pub memory_refuses : (n : ℕ) → a ≡ Register n → Refuses Address (memory p o.m) src (i + 1) 3
  unfolding memory
  memory_refuses n e =
      let (h, x) = in_register p o.m src (i + 1) a j o.named n e in
      refuses_seq _ (refuses_allowed (le-ltb (mod_field o.m) 3 (omega arith)))

  pub with_memory_lem : (k : ℕ → Address → Instr) (b : Address) {r : Answer Instr} → Ok b ≡ memory_of a → r ≡ known_as (k reg b) j → Decodes (with_memory p k) src i r
  unfolding with_memory
  with_memory_lem k b e f = decodes_to (rw o.field at f) (decodes_seq _ o.code (decodes_seq _ (memory_reads b (stands_in a b e)) decodes_got))

  pub not_memory : (k : ℕ → Address → Instr) (e : Refusal) {r : Answer Instr} → Err e ≡ memory_of a → Exits r e → Decodes (with_memory p k) src i r
  unfolding with_memory
  not_memory k e h x = let (n, f, g) = stands_not a e h in left_by x g (decodes_seq _ o.code (decodes_refused _ (memory_refuses n f)))

  -- the reg field must be 0
  pub plain_reads : reg ≡ 0 → Reads Place (plain_place p) src i a j
  unfolding plain_place
  plain_reads e = reads_seq _ o.code (reads_seq _ (reads_allowed (eq-eqb (reg_field o.m) 0 (sym o.field ∙ e))) o.named)

  pub plain_refuses : (reg ≡ 0 → ⊥) → Refuses Place (plain_place p) src i 3
  unfolding plain_place
  plain_refuses e = reads_then_refuses _ o.code (refuses_seq _ (refuses_allowed (ne_eqb (reg_field o.m) 0 (λ h. e (o.field ∙ h)))))

  pub of_plain : (k : Place → Instr) (b : Place) {r : Answer Instr} → Ok b ≡ plain_of reg a → r ≡ known_as (k b) j → Decodes (with_plain p k) src i r
  unfolding with_plain
  of_plain k b h e = let (f, g) = field_is_0 reg a b h in decodes_seq _ (plain_reads f) (decodes_known (rw g at e))

  -- a reading that begins with such an operand
  pub not_plain_first : (f : Place → Reading Instr) (e : Refusal) {r : Answer Instr} → Err e ≡ plain_of reg a → Exits r e → Decodes (plain_place p >>= f) src i r
  not_plain_first f e h x = let (g, q) = field_not_0 reg a e h in left_by x q (decodes_refused f (plain_refuses g))

  pub not_plain : (k : Place → Instr) (e : Refusal) {r : Answer Instr} → Err e ≡ plain_of reg a → Exits r e → Decodes (with_plain p k) src i r
  unfolding with_plain
  not_plain k e h x = not_plain_first _ e h x

  -- the reg field chooses a row
  pub field_below : reg < 8
  field_below = rw o.field (omega arith)

  pub by_field : (t : ℕ → List Row) {r : Answer Instr} → Names (t o.m) reg src (i + 1) r → Decodes (byte >>= (λ m. look_up (t m) (reg_field m))) src i r
  by_field t x = decodes_seq _ o.code (rw o.field at x.is)

  -- a row that reads the operand, or memory alone
  pub of_place : (k : Place → Instr) {r : Answer Instr} → r ≡ known_as (k a) j → Decodes (place p o.m >>= (λ x. got (k x))) src (i + 1) r
  of_place k e = decodes_seq _ o.named (decodes_known e)

  pub of_memory : (k : Address → Instr) (b : Address) {r : Answer Instr} → Ok b ≡ memory_of a → r ≡ known_as (k b) j → Decodes (memory p o.m >>= (λ x. got (k x))) src (i + 1) r
  of_memory k b e f = decodes_seq _ (memory_reads b (stands_in a b e)) (decodes_known f)

  pub of_register : (k : Address → Instr) (e : Refusal) {r : Answer Instr} → Err e ≡ memory_of a → Exits r e → Decodes (memory p o.m >>= (λ x. got (k x))) src (i + 1) r
  of_register k e h x = let (n, f, g) = stands_not a e h in left_by x g (decodes_refused _ (memory_refuses n f))
