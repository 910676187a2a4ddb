-- A block instruction that stands at PS:PC, prefixes and all, is what the step does.
use Prim.Native.Nat.{ℕ, zero, suc, ◌+◌, ◌≤◌, ◌<◌}
use mathlib.Core.Path.{◌≡◌, refl, ◌∙◌}
use mathlib.Core.Bool.{Bool, true, false}
use mathlib.Core.List.{List, [], ◌∷◌, ◌++◌}
use Rattle.std.specs.Prelude.{None, Some}
use native.Mathlib.Nat.{add-zero, add_assoc, add_comm}
use native.Mathlib.Numerals.{add-one}
use native.Mathlib.Omega.{arith}
use lib.ListN.{length, get_or}
use Rattle.sheet.specs.declared.Primitive.{Primitive}
use Rattle.sheet.specs.declared.Primitive.TheVariants.{Movbk, Cmpbk, Cmpm, Ldm, Stm, Inm, Outm}
use Rattle.sheet.specs.declared.Prefixes.{Prefixes}
use Rattle.sheet.specs.declared.Instr.{Instr}
use Rattle.sheet.specs.declared.Instr.TheVariants.{Blocks}
use Rattle.sheet.specs.Width.{pick}
use Rattle.sheet.specs.Psw.{Choice, native_of}
use Rattle.sheet.specs.Registers.{in_ds0}
use Rattle.sheet.specs.World.{World, psw_of}
use Rattle.sheet.specs.Handler.{run_by}
use Rattle.sheet.specs.Reading as reading
use Rattle.sheet.specs.Reading.{Reading, got, no, known, scan}
use Rattle.sheet.specs.Encoding.{Prefix, unprefixed, with_prefix, prefix_of, seg_or, look_up}
use Rattle.sheet.specs.FirstByte.{first_bytes, after_prefix, prefixed, instruction}
use Rattle.sheet.specs.Step.{fits, sound, source, stepping, starting, decoded, awake, step_by, instruction_in}

-- prefix bytes, read after p, leave q
pub data Prefixing : List ℕ → Prefixes → Prefixes → Type 0 where
  no_prefix : {p : Prefixes} → Prefixing [] p p
  one_prefix : {b : ℕ} {l : List ℕ} {p q : Prefixes} (x : Prefix) → prefix_of b ≡ Some x → Prefixing l (with_prefix p x) q → Prefixing (b ∷ l) p q

-- the code of a primitive
abbrev pub block_code : Primitive → Bool → ℕ
block_code Movbk w = pick w 0xa5 0xa4
block_code Cmpbk w = pick w 0xa7 0xa6
block_code Cmpm w = pick w 0xaf 0xae
block_code Ldm w = pick w 0xad 0xac
block_code Stm w = pick w 0xab 0xaa
block_code Inm w = pick w 0x6d 0x6c
block_code Outm w = pick w 0x6f 0x6e

-- the bytes from the ith of a source on
abbrev pub Begins : List ℕ → (ℕ → ℕ) → ℕ → Type 0
Begins l src i = (j : ℕ) → j < length l → src (i + j) ≡ get_or l j 0

first_is : (b : ℕ) (l : List ℕ) (src : ℕ → ℕ) (i : ℕ) → Begins (b ∷ l) src i → src i ≡ b
first_is b l src i h = rw add-zero at (h 0 (omega arith))

others_are : (b : ℕ) (l : List ℕ) (src : ℕ → ℕ) (i : ℕ) → Begins (b ∷ l) src i → Begins l src (i + 1)
others_are b l src i h j k = rw (add_assoc i 1 j, add_comm 1 j, add-one j) (h (suc j) (omega arith))

-- the next byte is looked at
scan_last : (p : Prefixes) (src : ℕ → ℕ) (i : ℕ) → scan (prefixed zero p) src i ≡ scan (after_prefix (prefix_of (src i)) (λ x. no 4) (look_up (first_bytes p) (src i))) src (i + 1)
unfolding scan prefixed reading.◌>>=◌
scan_last p src i = refl

scan_next : (room : ℕ) (p : Prefixes) (src : ℕ → ℕ) (i : ℕ)
    → scan (prefixed (suc room) p) src i ≡ scan (after_prefix (prefix_of (src i)) (λ x. prefixed room (with_prefix p x)) (look_up (first_bytes p) (src i))) src (i + 1)
unfolding scan prefixed reading.◌>>=◌
scan_next room p src i = refl

none_after : (b : ℕ) (k : Prefix → Reading Instr) (other : Reading Instr) → prefix_of b ≡ None → after_prefix (prefix_of b) k other ≡ other
unfolding after_prefix
none_after b k other e = rw e

some_after : (b : ℕ) (x : Prefix) (k : Prefix → Reading Instr) (other : Reading Instr) → prefix_of b ≡ Some x → after_prefix (prefix_of b) k other ≡ k x
unfolding after_prefix
some_after b x k other e = rw e

-- prefixes are passed over: what counts is what they leave
pub scan_prefixes : {l : List ℕ} {p q : Prefixes} (b room : ℕ) (src : ℕ → ℕ) (i : ℕ) → Prefixing l p q → length l ≤ room → prefix_of b ≡ None → Begins (l ++ (b ∷ [])) src i
    → scan (prefixed room p) src i ≡ scan (look_up (first_bytes q) b) src (i + length l + 1)
scan_prefixes {p = p} b zero src i no_prefix r e h =
    scan_last p src i ∙ rw (first_is b [] src i h, none_after b (λ x. no 4) (look_up (first_bytes p) b) e, add-zero i)
scan_prefixes {p = p} b (suc room) src i no_prefix r e h =
    scan_next room p src i ∙ rw (first_is b [] src i h, none_after b (λ x. prefixed room (with_prefix p x)) (look_up (first_bytes p) b) e, add-zero i)
scan_prefixes b zero src i (one_prefix x y z) r e h = absurd (omega arith)
scan_prefixes {p = p} {q = q} b (suc room) src i (one_prefix {b = c} {l = l} x y z) r e h =
    scan_next room p src i
    ∙ rw (first_is c (l ++ (b ∷ [])) src i h, some_after c x (λ o. prefixed room (with_prefix p o)) (look_up (first_bytes p) c) y)
    (scan_prefixes b room src (i + 1) z (omega arith) e (others_are c (l ++ (b ∷ [])) src i h)
    ∙ rw (add_assoc i 1 (length l), add_comm 1 (length l), add-one (length l)))

code_read : (k : Primitive) (w : Bool) (q : Prefixes) → (prefix_of (block_code k w) ≡ None) × (look_up (first_bytes q) (block_code k w) ≡ got (Blocks k w (seg_or q.seg in_ds0) q.repeat))
unfolding prefix_of look_up
code_read Movbk true q = (refl, refl)
code_read Movbk false q = (refl, refl)
code_read Cmpbk true q = (refl, refl)
code_read Cmpbk false q = (refl, refl)
code_read Cmpm true q = (refl, refl)
code_read Cmpm false q = (refl, refl)
code_read Ldm true q = (refl, refl)
code_read Ldm false q = (refl, refl)
code_read Stm true q = (refl, refl)
code_read Stm false q = (refl, refl)
code_read Inm true q = (refl, refl)
code_read Inm false q = (refl, refl)
code_read Outm true q = (refl, refl)
code_read Outm false q = (refl, refl)

-- in native mode the bytes are native code
pub native_read : (w : World) → native_of (psw_of w.state) ≡ true → instruction_in w ≡ scan instruction (source w) 0
unfolding instruction_in
native_read w m = rw m

-- a block instruction with at most three prefixes is read whole
pub block_read : {l : List ℕ} {q : Prefixes} (k : Primitive) (b : Bool) (w : World) → native_of (psw_of w.state) ≡ true → Prefixing l unprefixed q → length l ≤ 3 → Begins (l ++ (block_code k b ∷ [])) (source w) 0
    → instruction_in w ≡ known (Blocks k b (seg_or q.seg in_ds0) q.repeat) (0 + length l + 1)
unfolding instruction scan
block_read {q = q} k b w m z r h =
    native_read w m ∙ scan_prefixes (block_code k b) 3 (source w) 0 z r (code_read k b q).0 h ∙ rw (code_read k b q).1

-- and the step does it
pub block_turns : {l : List ℕ} {q : Prefixes} (u : ℕ → Choice) (k : Primitive) (b : Bool) (w : World) → native_of (psw_of w.state) ≡ true → Prefixing l unprefixed q → length l ≤ 3
    → Begins (l ++ (block_code k b ∷ [])) (source w) 0 → fits w ≡ true → sound w ≡ true → w.state.marks.halted ≡ false
    → step_by u w ≡ run_by u (stepping (Blocks k b (seg_or q.seg in_ds0) q.repeat) (0 + length l + 1)) (starting (Blocks k b (seg_or q.seg in_ds0) q.repeat) w)
unfolding step_by awake decoded
block_turns u k b w m z r h f s a = rw (f, s, block_read k b w m z r h, a)
