-- What each return of the code comes to, over plain values.
use Rattle.sheet.specs.declared.Instr.{Instr}
use Prim.Native.Nat.{ℕ, ◌%◌, ◌≤◌, ◌<◌}
use mathlib.Core.Path.{◌≡◌, refl}
use mathlib.Core.Bool.{Bool, true, false}
use lib.Dec.{leb}
use borrow.Author.Tests.{leb-true, leb-false}
use Rattle.sheet.specs.declared.Primitive.{Primitive}
use Rattle.sheet.specs.declared.Repeat.{Repeat}
use Rattle.sheet.specs.declared.Prefixes.{Prefixes}
use Rattle.sheet.specs.declared.Place.TheVariants.{Register}
use Rattle.sheet.specs.declared.Source.TheVariants.{Immediate}
use Rattle.sheet.specs.declared.Arithmetic.TheVariants.{Test}
use Rattle.sheet.specs.declared.Transfer.TheVariants.{Mov, Xch, LoadAcc, StoreAcc}
use Rattle.sheet.specs.declared.Instr.TheVariants.{Blocks}
use Rattle.sheet.specs.Groups.{Transfers, Calculates}
use Rattle.sheet.specs.Registers.{AW}
use Rattle.sheet.specs.Reading.{got, word, immediate}
use Rattle.sheet.specs.Encoding.{W, direct}
use Rattle.sheet.specs.FirstByte.{bytes80}
use Rattle.sheet.specs.Contract.{Reads}
use Rattle.code_answer.specs.Answer.{Answer, known_as, Takes, Decodes, Names}
use Rattle.code_answer.proofs.CodeLaws.{at_row}
use Rattle.code_answer.proofs.DecodesLaws.{decodes_known}
use Rattle.code_answer.proofs.FollowLaws.{with_byte_lem, with_word_lem, with_acc_lem}

-- block primitives
pub of_block : (b : ℕ) {src : ℕ → ℕ} {i s : ℕ} {k q : Primitive} {t : Repeat} {r : Answer Instr} → q ≡ k → r ≡ known_as (Blocks q (W b) s t) i → Decodes (got (Blocks k (W b) s t)) src i r
of_block b h e = decodes_known (rw h at e)

module _ (p : Prefixes) {b : ℕ} {src : ℕ → ℕ} {i : ℕ} {r : Answer Instr} where
  pub exchange : 0x91 ≤ b → b < 0x98 → r ≡ known_as (Transfers (Xch true (b % 8) (Register AW))) i → Names (bytes80 p) b src i r
  exchange h k e = at_row 0x91 refl h k (decodes_known e)

  module _ {j v : ℕ} where
    pub load_acc : 0xa0 ≤ b → b < 0xa2 → Reads ℕ word src i v j → r ≡ known_as (Transfers (LoadAcc (W b) (direct p v))) j → Names (bytes80 p) b src i r
    load_acc h k x e = at_row 0xa0 refl h k (with_word_lem _ x e)

    pub store_acc : 0xa2 ≤ b → b < 0xa4 → Reads ℕ word src i v j → r ≡ known_as (Transfers (StoreAcc (W b) (direct p v))) j → Names (bytes80 p) b src i r
    store_acc h k x e = at_row 0xa2 refl h k (with_word_lem _ x e)

    pub test_acc : 0xa8 ≤ b → b < 0xaa → Takes ℕ (immediate (W b)) src i v j 2 → r ≡ known_as (Calculates (Test (W b) (Register AW) (Immediate v))) j → Names (bytes80 p) b src i r
    test_acc h k x e = at_row 0xa8 refl h k (with_acc_lem (W b) (λ s. Calculates (Test (W b) (Register AW) s)) x e)

    -- a byte below B8, a word from there on
    pub load_register_lem : 0xb0 ≤ b → b < 0xc0 → Takes ℕ (immediate (leb 0xb8 b)) src i v j 2 → r ≡ known_as (Transfers (Mov (leb 0xb8 b) (Register (b % 8)) (Immediate v))) j → Names (bytes80 p) b src i r
    unfolding immediate
    load_register_lem h k x e = go (leb 0xb8 b) refl x.reads e
      where
        go : (w : Bool) → leb 0xb8 b ≡ w → Reads ℕ (immediate w) src i v j → r ≡ known_as (Transfers (Mov w (Register (b % 8)) (Immediate v))) j → Names (bytes80 p) b src i r
        go true q x e = let l = leb-true 0xb8 b q in at_row 0xb8 refl l k (with_word_lem _ x e)
        go false q x e = let l = leb-false 0xb8 b q in at_row 0xb0 refl h l (with_byte_lem _ x e)
