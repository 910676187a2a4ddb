-- The first bytes of the 8080 mode by their fields, two, three and three bits, and an instruction of this mode. There are no prefixes.
-- CARDS 1-64 by their codes, and its unknown bytes; 000:1356-1357
use Rattle.std.specs.Prelude.{ℕ, ◌/◌, true, false, ◌&&◌, List, [], ◌∷◌, eqb, get_or}
use Rattle.sheet.specs.declared.Address.TheVariants.{Direct}
use Rattle.sheet.specs.declared.Place.TheVariants.{Register}
use Rattle.sheet.specs.declared.Source.TheVariants.{Held, Immediate}
use Rattle.sheet.specs.declared.Operation.{Operation}
use Rattle.sheet.specs.declared.Operation.TheVariants.{Add, Or, Addc, Subc, And, Sub, Xor, Cmp}
use Rattle.sheet.specs.declared.Shift.TheVariants.{Rol, Ror, Rolc, Rorc}
use Rattle.sheet.specs.declared.Transfer.TheVariants.{Mov, LoadAcc, StoreAcc, Xch}
use Rattle.sheet.specs.declared.Port.TheVariants.{Numbered}
use Rattle.sheet.specs.declared.Io.TheVariants.{In, Out}
use Rattle.sheet.specs.declared.Control.TheVariants.{Nop, Halt, Di, Ei, SetCy, NotCy}
use Rattle.sheet.specs.declared.cards.CardPoint.TheVariants.{Ldax, Stax}
use Rattle.sheet.specs.declared.cards.CardArithmetic.TheVariants.{Two, Inr, Dcr, Inx, Dcx, Dad, Rotate, Daa, Cma}
use Rattle.sheet.specs.declared.cards.CardBranch.TheVariants.{Jmp, JumpIf, Call, CallIf, Ret, RetIf, Rst, Pchl}
use Rattle.sheet.specs.declared.cards.CardStack.TheVariants.{Push, PushPsw, Pop, PopPsw, Xthl}
use Rattle.sheet.specs.declared.cards.CardMode.TheVariants.{Calln, Retem}
use Rattle.sheet.specs.declared.cards.Card.{Card}
use Rattle.sheet.specs.declared.cards.Card.TheVariants.{Transfers, Ports, Controls, Points, Calculates, Branches, Stacks, Modes}
use Rattle.sheet.specs.declared.Instr.{Instr}
use Rattle.sheet.specs.declared.Instr.TheVariants.{Cards}
use Rattle.sheet.specs.Width.{pick, odd}
use Rattle.sheet.specs.Registers.{CW, DW, BW, BP, in_ds0}
use Rattle.sheet.specs.Reading.{Reading, got, no, ◌>>=◌, byte, word}
use Rattle.sheet.specs.Encoding.{mod_field, reg_field, mem_field}
use Rattle.sheet.specs.CardPlaces.{memory_at, operand_at, card_pair_at, condition_at}

-- ---- what follows a first byte

unfoldable pub card_byte : (ℕ → Card) → Reading Card
card_byte k = do
  v ← byte
  got (k v)

unfoldable pub card_word : (ℕ → Card) → Reading Card
card_word k = do
  v ← word
  got (k v)

-- what the field n chooses
abbrev pub by_field : List (Reading Card) → ℕ → Reading Card
by_field l n = get_or l n (no 3)

-- ADD ADC SUB SBB ANA XRA ORA CMP
abbrev pub card_operations : List Operation
card_operations = Add ∷ Addc ∷ Sub ∷ Subc ∷ And ∷ Xor ∷ Or ∷ Cmp ∷ []

unfoldable pub card_operation_at : ℕ → Operation
card_operation_at n = get_or card_operations n Cmp

-- ---- 00 d l

-- 00 d 001
unfoldable pub lxi_or_dad : ℕ → Reading Card
lxi_or_dad d =
    pick (odd d)
    (got (Calculates (Dad (card_pair_at (d / 2)))))  -- DAD 35
    (card_word (λ v. Transfers (Mov true (Register (card_pair_at (d / 2))) (Immediate v))))  -- LXI 6

-- 00 d 010
unfoldable pub load_or_store : ℕ → Reading Card
load_or_store d =
    by_field (
    got (Points (Stax CW))  -- STAX B 7
    ∷ got (Points (Ldax CW))  -- LDAX B 8
    ∷ got (Points (Stax DW))  -- STAX D 7
    ∷ got (Points (Ldax DW))  -- LDAX D 8
    ∷ card_word (λ a. Transfers (Mov true (memory_at a) (Held (Register BW))))  -- SHLD 9
    ∷ card_word (λ a. Transfers (Mov true (Register BW) (Held (memory_at a))))  -- LHLD 10
    ∷ card_word (λ a. Transfers (StoreAcc false (Direct in_ds0 a)))  -- STA 11
    ∷ card_word (λ a. Transfers (LoadAcc false (Direct in_ds0 a)))  -- LDA 12
    ∷ []) d

-- 00 d 111
unfoldable pub on_al_or_cy : ℕ → Reading Card
on_al_or_cy d =
    by_field (
    got (Calculates (Rotate Rol))  -- RLC 36
    ∷ got (Calculates (Rotate Ror))  -- RRC 37
    ∷ got (Calculates (Rotate Rolc))  -- RAL 38
    ∷ got (Calculates (Rotate Rorc))  -- RAR 39
    ∷ got (Calculates Daa)  -- DAA 40
    ∷ got (Calculates Cma)  -- CMA 41
    ∷ got (Controls SetCy)  -- STC 42
    ∷ got (Controls NotCy)  -- CMC 43
    ∷ []) d

unfoldable pub cards00 : ℕ → ℕ → Reading Card
cards00 d l =
    by_field (
    pick (eqb d 0) (got (Controls Nop)) (no 3)  -- NOP 62
    ∷ lxi_or_dad d
    ∷ load_or_store d
    ∷ got (Calculates (pick (odd d) (Dcx (card_pair_at (d / 2))) (Inx (card_pair_at (d / 2)))))  -- DCX 34, INX 33
    ∷ got (Calculates (Inr (operand_at d)))  -- INR 31
    ∷ got (Calculates (Dcr (operand_at d)))  -- DCR 32
    ∷ card_byte (λ v. Transfers (Mov false (operand_at d) (Immediate v)))  -- MVI 4-5
    ∷ on_al_or_cy d
    ∷ []) l

-- ---- 01 d s, 10 d s

-- MOV M,M would be HLT
unfoldable pub cards01 : ℕ → ℕ → Reading Card
cards01 d s =
    pick (eqb d 6 && eqb s 6)
    (got (Controls Halt))  -- HLT 61
    (got (Transfers (Mov false (operand_at d) (Held (operand_at s)))))  -- MOV 1-3

unfoldable pub cards10 : ℕ → ℕ → Reading Card
cards10 d s = got (Calculates (Two (card_operation_at d) (Held (operand_at s))))  -- ADD to CMP 15-22

-- ---- 11 d l

-- 11 d 001
unfoldable pub pop_or_return : ℕ → Reading Card
pop_or_return d =
    by_field (
    got (Stacks (Pop CW))  -- POP B 54
    ∷ got (Branches Ret)  -- RET 48
    ∷ got (Stacks (Pop DW))  -- POP D 54
    ∷ no 3
    ∷ got (Stacks (Pop BW))  -- POP H 54
    ∷ got (Branches Pchl)  -- PCHL 51
    ∷ got (Stacks PopPsw)  -- POP PSW 55
    ∷ got (Transfers (Mov true (Register BP) (Held (Register BW))))  -- SPHL 14
    ∷ []) d

-- 11 d 011
unfoldable pub jump_or_port : ℕ → Reading Card
jump_or_port d =
    by_field (
    card_word (λ a. Branches (Jmp a))  -- JMP 44
    ∷ no 3
    ∷ card_byte (λ n. Ports (Out false (Numbered n)))  -- OUT 57
    ∷ card_byte (λ n. Ports (In false (Numbered n)))  -- IN 58
    ∷ got (Stacks Xthl)  -- XTHL 56
    ∷ got (Transfers (Xch true DW (Register BW)))  -- XCHG 13
    ∷ got (Controls Di)  -- DI 59
    ∷ got (Controls Ei)  -- EI 60
    ∷ []) d

-- ED
unfoldable pub after_ed : Reading Card
after_ed = do
  b ← byte
  pick (eqb b 0xed)
      (card_byte (λ n. Modes (Calln n)))  -- CALLN 63
      (pick (eqb b 0xfd) (got (Modes Retem)) (no 3))  -- RETEM 64

-- 11 d 101
unfoldable pub push_or_call : ℕ → Reading Card
push_or_call d =
    by_field (
    got (Stacks (Push CW))  -- PUSH B 52
    ∷ card_word (λ a. Branches (Call a))  -- CALL 46
    ∷ got (Stacks (Push DW))  -- PUSH D 52
    ∷ no 3
    ∷ got (Stacks (Push BW))  -- PUSH H 52
    ∷ after_ed
    ∷ got (Stacks PushPsw)  -- PUSH PSW 53
    ∷ no 3
    ∷ []) d

unfoldable pub cards11 : ℕ → ℕ → Reading Card
cards11 d l =
    by_field (
    got (Branches (RetIf (condition_at d)))  -- RNZ to RM 49
    ∷ pop_or_return d
    ∷ card_word (λ a. Branches (JumpIf (condition_at d) a))  -- JNZ to JM 45
    ∷ jump_or_port d
    ∷ card_word (λ a. Branches (CallIf (condition_at d) a))  -- CNZ to CM 47
    ∷ push_or_call d
    ∷ card_byte (λ v. Calculates (Two (card_operation_at d) (Immediate v)))  -- ADI to CPI 23-30
    ∷ got (Branches (Rst d))  -- RST 50
    ∷ []) l

-- ---- an instruction

unfoldable pub card_of : ℕ → Reading Card
card_of b =
    let d : ℕ = reg_field b in
    let l : ℕ = mem_field b in
    by_field (cards00 d l ∷ cards01 d l ∷ cards10 d l ∷ cards11 d l ∷ []) (mod_field b)

unfoldable pub card : Reading Card
card = do
  b ← byte
  card_of b

unfoldable pub card_instruction : Reading Instr
card_instruction = do
  c ← card
  got (Cards c)
