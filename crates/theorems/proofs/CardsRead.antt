-- What bytes can name in the 8080 mode: the registers and pairs of its instructions, and port numbers of a byte.
use Prim.Native.Nat.{ℕ, zero, suc, ◌/◌, ◌≤◌}
use mathlib.Core.Bool.{Bool, true, false, ◌&&◌}
use mathlib.Core.List.{List, [], ◌∷◌}
use lib.Dec.{eqb}
use lib.ListN.{get_or}
use Rattle.sheet.specs.declared.Address.{Address}
use Rattle.sheet.specs.declared.Place.{Place}
use Rattle.sheet.specs.declared.Place.TheVariants.{Register, Memory}
use Rattle.sheet.specs.declared.Source.{Source}
use Rattle.sheet.specs.declared.Operation.{Operation}
use Rattle.sheet.specs.declared.Shift.{Shift}
use Rattle.sheet.specs.declared.Transfer.TheVariants.{Mov, LoadAcc, StoreAcc, Xch}
use Rattle.sheet.specs.declared.Port.TheVariants.{Numbered}
use Rattle.sheet.specs.declared.Io.TheVariants.{In, Out}
use Rattle.sheet.specs.declared.Control.{Control}
use Rattle.sheet.specs.declared.cards.CardPoint.{CardPoint}
use Rattle.sheet.specs.declared.cards.CardArithmetic.TheVariants.{Two, Inr, Dcr, Inx, Dcx, Dad, Rotate, Daa, Cma}
use Rattle.sheet.specs.declared.cards.CardBranch.{CardBranch}
use Rattle.sheet.specs.declared.cards.CardStack.TheVariants.{Push, PushPsw, Pop, PopPsw, Xthl}
use Rattle.sheet.specs.declared.cards.CardMode.{CardMode}
use Rattle.sheet.specs.declared.cards.Card.{Card}
use Rattle.sheet.specs.declared.cards.Card.TheVariants.{Transfers, Ports, Controls, Points, Calculates, Branches, Stacks, Modes}
use Rattle.sheet.specs.declared.Instr.{Instr}
use Rattle.sheet.specs.declared.Instr.TheVariants.{Cards}
use Rattle.sheet.specs.Width.{pick, odd}
use Rattle.sheet.specs.Registers.{CW, DW, BW, BP, AL, CL}
use Rattle.sheet.specs.Reading.{Reading, no}
use Rattle.sheet.specs.Encoding.{mod_field, reg_field, mem_field}
use Rattle.sheet.specs.CardPlaces.{CH, DH, DL, BH, BL, operands, operand_at, pairs, card_pair_at}
use Rattle.sheet.specs.CardCodes.{card_byte, card_word, lxi_or_dad, load_or_store, on_al_or_cy, cards00, cards01, cards10, pop_or_return, jump_or_port, after_ed, push_or_call, cards11, card_of, card, card_instruction}
use Rattle.theorems.proofs.BoundsReading.{Leaf, leaf, bind, either, unknown_code, of_byte, of_word, Fine, ok}

-- ---- what is named

-- B C D E H L A, and the pairs BC DE HL SP
pub data CardRegister : ℕ → Type 0 where
  is_b : CardRegister CH
  is_c : CardRegister CL
  is_d : CardRegister DH
  is_e : CardRegister DL
  is_h : CardRegister BH
  is_l : CardRegister BL
  is_a : CardRegister AL

pub data CardPair : ℕ → Type 0 where
  is_bc : CardPair CW
  is_de : CardPair DW
  is_hl : CardPair BW
  is_sp : CardPair BP

-- a place of a width: such a register or pair, or memory
pub data CardPlace : Bool → Place → Type 0 where
  of_register : {n : ℕ} → CardRegister n → CardPlace false (Register n)
  of_pair : {n : ℕ} → CardPair n → CardPlace true (Register n)
  of_memory : {w : Bool} {a : Address} → CardPlace w (Memory a)

pub data Named : Card → Type 0 where
  moves : {w : Bool} {to : Place} {from : Source} → CardPlace w to → Named (Transfers (Mov w to from))
  loads : {a : Address} → Named (Transfers (LoadAcc false a))
  stores : {a : Address} → Named (Transfers (StoreAcc false a))
  swaps : Named (Transfers (Xch true DW (Register BW)))
  takes : {n : ℕ} → n ≤ 255 → Named (Ports (In false (Numbered n)))
  gives : {n : ℕ} → n ≤ 255 → Named (Ports (Out false (Numbered n)))
  controls : {i : Control} → Named (Controls i)
  points : {i : CardPoint} → Named (Points i)
  two : {op : Operation} {from : Source} → Named (Calculates (Two op from))
  inr : {to : Place} → CardPlace false to → Named (Calculates (Inr to))
  dcr : {to : Place} → CardPlace false to → Named (Calculates (Dcr to))
  inx : {pair : ℕ} → CardPair pair → Named (Calculates (Inx pair))
  dcx : {pair : ℕ} → CardPair pair → Named (Calculates (Dcx pair))
  dad : {pair : ℕ} → Named (Calculates (Dad pair))
  rotates : {k : Shift} → Named (Calculates (Rotate k))
  daa : Named (Calculates Daa)
  cma : Named (Calculates Cma)
  branches : {i : CardBranch} → Named (Branches i)
  pushes : {pair : ℕ} → Named (Stacks (Push pair))
  pushes_psw : Named (Stacks PushPsw)
  pops : {pair : ℕ} → CardPair pair → Named (Stacks (Pop pair))
  pops_psw : Named (Stacks PopPsw)
  xthl : Named (Stacks Xthl)
  modes : {i : CardMode} → Named (Modes i)

-- ---- what a field chooses from a list

pub data All {A : Type 0} (P : A → Type 0) : List A → Type 0 where
  no_more : All P []
  ◌then◌ : {a : A} {l : List A} → P a → All P l → All P (a ∷ l)

infixr 30 ◌then◌
pub chosen : {A : Type 0} {P : A → Type 0} (l : List A) (d : A) → All P l → P d → (n : ℕ) → P (get_or l n d)
chosen [] d no_more h n = h
chosen (a ∷ l) d (x then y) h zero = x
chosen (a ∷ l) d (x then y) h (suc n) = chosen l d y h n

of_operand : (n : ℕ) → CardPlace false (operand_at n)
unfolding operand_at
of_operand n =
    chosen {P = CardPlace false} operands (Register AL)
    (of_register is_b then of_register is_c then of_register is_d then of_register is_e then of_register is_h then of_register is_l then of_memory then of_register is_a then no_more)
    (of_register is_a) n

of_card_pair : (n : ℕ) → CardPair (card_pair_at n)
unfolding card_pair_at
of_card_pair n = chosen {P = CardPair} pairs BP (is_bc then is_de then is_hl then is_sp then no_more) is_sp n

of_fields : {l : List (Reading Card)} → All (λ p. Leaf Named p) l → (n : ℕ) → Leaf Named (get_or l n (no 3))
of_fields {l} h n = chosen {P = λ p. Leaf Named p} l (no 3) h unknown_code n

-- ---- the codes

of_card_byte : (k : ℕ → Card) → ((v : ℕ) → v ≤ 255 → Named (k v)) → Leaf Named (card_byte k)
unfolding card_byte
of_card_byte k h = bind of_byte λ v l. leaf (h v l)

of_card_word : (k : ℕ → Card) → ((v : ℕ) → Named (k v)) → Leaf Named (card_word k)
unfolding card_word
of_card_word k h = bind of_word λ v _. leaf (h v)

of_lxi_or_dad : (d : ℕ) → Leaf Named (lxi_or_dad d)
unfolding lxi_or_dad
of_lxi_or_dad d = either (odd d) (leaf dad) (of_card_word _ λ v. moves (of_pair (of_card_pair (d / 2))))

of_load_or_store : (d : ℕ) → Leaf Named (load_or_store d)
unfolding load_or_store
of_load_or_store d =
    of_fields (
    leaf points then leaf points then leaf points then leaf points then of_card_word _ (λ a. moves of_memory) then of_card_word _ (λ a. moves (of_pair is_hl))
    then of_card_word _ (λ a. stores) then of_card_word _ (λ a. loads) then no_more) d

of_on_al_or_cy : (d : ℕ) → Leaf Named (on_al_or_cy d)
unfolding on_al_or_cy
of_on_al_or_cy d =
    of_fields (
    leaf rotates then leaf rotates then leaf rotates then leaf rotates then leaf daa then leaf cma then leaf controls then leaf controls then no_more) d

of_cards00 : (d l : ℕ) → Leaf Named (cards00 d l)
unfolding cards00
of_cards00 d l =
    of_fields (
    either (eqb d 0) (leaf controls) unknown_code
    then of_lxi_or_dad d
    then of_load_or_store d
    then leaf (counts (odd d))
    then leaf (inr (of_operand d))
    then leaf (dcr (of_operand d))
    then of_card_byte _ (λ v h. moves (of_operand d))
    then of_on_al_or_cy d
    then no_more) l
  where
    counts : (b : Bool) → Named (Calculates (pick b (Dcx (card_pair_at (d / 2))) (Inx (card_pair_at (d / 2)))))
    counts true = dcx (of_card_pair (d / 2))
    counts false = inx (of_card_pair (d / 2))

of_cards01 : (d s : ℕ) → Leaf Named (cards01 d s)
unfolding cards01
of_cards01 d s = either (eqb d 6 && eqb s 6) (leaf controls) (leaf (moves (of_operand d)))

of_pop_or_return : (d : ℕ) → Leaf Named (pop_or_return d)
unfolding pop_or_return
of_pop_or_return d =
    of_fields (
    leaf (pops is_bc) then leaf branches then leaf (pops is_de) then unknown_code then leaf (pops is_hl) then leaf branches then leaf pops_psw
    then leaf (moves (of_pair is_sp)) then no_more) d

of_jump_or_port : (d : ℕ) → Leaf Named (jump_or_port d)
unfolding jump_or_port
of_jump_or_port d =
    of_fields (
    of_card_word _ (λ a. branches) then unknown_code then of_card_byte _ (λ n h. gives h) then of_card_byte _ (λ n h. takes h) then leaf xthl then leaf swaps
    then leaf controls then leaf controls then no_more) d

of_after_ed : Leaf Named after_ed
unfolding after_ed
of_after_ed = bind of_byte λ b _. either (eqb b 0xed) (of_card_byte _ λ n h. modes) (either (eqb b 0xfd) (leaf modes) unknown_code)

of_push_or_call : (d : ℕ) → Leaf Named (push_or_call d)
unfolding push_or_call
of_push_or_call d =
    of_fields (
    leaf pushes then of_card_word _ (λ a. branches) then leaf pushes then unknown_code then leaf pushes then of_after_ed then leaf pushes_psw
    then unknown_code then no_more) d

of_cards11 : (d l : ℕ) → Leaf Named (cards11 d l)
unfolding cards11
of_cards11 d l =
    of_fields (
    leaf branches
    then of_pop_or_return d
    then of_card_word _ (λ a. branches)
    then of_jump_or_port d
    then of_card_word _ (λ a. branches)
    then of_push_or_call d
    then of_card_byte _ (λ v h. two)
    then leaf branches
    then no_more) l

of_cards10 : (d s : ℕ) → Leaf Named (cards10 d s)
unfolding cards10
of_cards10 d s = leaf two

of_card_of : (b : ℕ) → Leaf Named (card_of b)
unfolding card_of
of_card_of b =
    of_fields (
    of_cards00 (reg_field b) (mem_field b)
    then of_cards01 (reg_field b) (mem_field b)
    then of_cards10 (reg_field b) (mem_field b)
    then of_cards11 (reg_field b) (mem_field b)
    then no_more) (mod_field b)

-- ---- an instruction

pub fine_named : {c : Card} → Named c → Fine (Cards c)
fine_named (moves h) = ok
fine_named loads = ok
fine_named stores = ok
fine_named swaps = ok
fine_named (takes h) = h
fine_named (gives h) = h
fine_named controls = ok
fine_named points = ok
fine_named two = ok
fine_named (inr h) = ok
fine_named (dcr h) = ok
fine_named (inx h) = ok
fine_named (dcx h) = ok
fine_named dad = ok
fine_named rotates = ok
fine_named daa = ok
fine_named cma = ok
fine_named branches = ok
fine_named pushes = ok
fine_named pushes_psw = ok
fine_named (pops h) = ok
fine_named pops_psw = ok
fine_named xthl = ok
fine_named modes = ok

-- every instruction of this mode is so named
pub of_card_instruction : {Q : Instr → Type 0} → ((c : Card) → Named c → Q (Cards c)) → Leaf Q card_instruction
unfolding card_instruction card
of_card_instruction h = bind (bind of_byte λ b _. of_card_of b) λ c n. leaf (h c n)
