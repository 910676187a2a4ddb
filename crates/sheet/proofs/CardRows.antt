-- What codes of the 8080 mode name: each value of every field of the table once, by computation. 34 and 12 follow each code.
use Prim.Native.Nat.{ℕ}
use mathlib.Core.Path.{◌≡◌, refl}
use mathlib.Core.Bool.{true, false}
use mathlib.Core.List.{List, [], ◌∷◌}
use lib.ListN.{get_or}
use Rattle.sheet.specs.declared.Address.TheVariants.{Direct}
use Rattle.sheet.specs.declared.Place.TheVariants.{Register, Memory}
use Rattle.sheet.specs.declared.Source.TheVariants.{Held, Immediate}
use Rattle.sheet.specs.declared.Operation.TheVariants.{Add, Or, Addc, Subc, And, Sub, Xor, Cmp}
use Rattle.sheet.specs.declared.Shift.TheVariants.{Rol, Ror, Rolc, Rorc}
use Rattle.sheet.specs.declared.Transfer.TheVariants.{Mov, LoadAcc, StoreAcc, Xch}
use Rattle.sheet.specs.declared.Port.TheVariants.{Numbered}
use Rattle.sheet.specs.declared.Io.TheVariants.{In, Out}
use Rattle.sheet.specs.declared.Control.TheVariants.{Nop, Halt, Di, Ei, SetCy, NotCy}
use Rattle.sheet.specs.declared.cards.CardPoint.TheVariants.{Ldax, Stax}
use Rattle.sheet.specs.declared.cards.CardArithmetic.TheVariants.{Two, Inr, Dcr, Inx, Dcx, Dad, Rotate, Daa, Cma}
use Rattle.sheet.specs.declared.cards.CardBranch.TheVariants.{Jmp, JumpIf, Call, CallIf, Ret, RetIf, Rst, Pchl}
use Rattle.sheet.specs.declared.cards.CardStack.TheVariants.{Push, PushPsw, Pop, PopPsw, Xthl}
use Rattle.sheet.specs.declared.cards.CardMode.TheVariants.{Calln, Retem}
use Rattle.sheet.specs.declared.cards.Card.{Card}
use Rattle.sheet.specs.declared.cards.Card.TheVariants.{Transfers, Ports, Controls, Points, Calculates, Branches, Stacks, Modes}
use Rattle.sheet.specs.Registers.{CW, DW, BW, BP, AL, CL, in_ds0}
use Rattle.sheet.specs.Reading as reading
use Rattle.sheet.specs.Reading.{Read, known, scan, word}
use Rattle.sheet.specs.CardPlaces.{DL, BL, CH, DH, BH, M, operand_at, card_pair_at, condition_at}
use Rattle.sheet.specs.CardCodes.{card_byte, card_word, card_operation_at, lxi_or_dad, load_or_store, on_al_or_cy, cards00, cards01, cards10, pop_or_return, jump_or_port, after_ed, push_or_call, cards11, card_of, card}

-- a code, what it names, and how many bytes that has
pub record CardRow : Type 0 where
  pub code : ℕ
  pub names : Card
  pub size : ℕ

abbrev row : ℕ → Card → ℕ → CardRow
row b c n = record { code = b; names = c; size = n }

abbrev reads : List ℕ → Read Card
reads l = scan card (λ i. get_or l i 0) 0

unfoldable pub found : List CardRow → List (Read Card)
found [] = []
found (r ∷ l) = reads (r.code ∷ 0x34 ∷ 0x12 ∷ []) ∷ found l

unfoldable pub stated : List CardRow → List (Read Card)
stated [] = []
stated (r ∷ l) = known r.names r.size ∷ stated l

-- an operand after each of the eight registers, a condition and an operation of each kind, and what has a code of its own
abbrev pub rows : List CardRow
rows =
    row 0x00 (Controls Nop) 1
    ∷ row 0x01 (Transfers (Mov true (Register CW) (Immediate 0x1234))) 3
    ∷ row 0x11 (Transfers (Mov true (Register DW) (Immediate 0x1234))) 3
    ∷ row 0x21 (Transfers (Mov true (Register BW) (Immediate 0x1234))) 3
    ∷ row 0x31 (Transfers (Mov true (Register BP) (Immediate 0x1234))) 3
    ∷ row 0x02 (Points (Stax CW)) 1
    ∷ row 0x0a (Points (Ldax CW)) 1
    ∷ row 0x12 (Points (Stax DW)) 1
    ∷ row 0x1a (Points (Ldax DW)) 1
    ∷ row 0x22 (Transfers (Mov true (Memory (Direct in_ds0 0x1234)) (Held (Register BW)))) 3
    ∷ row 0x2a (Transfers (Mov true (Register BW) (Held (Memory (Direct in_ds0 0x1234))))) 3
    ∷ row 0x32 (Transfers (StoreAcc false (Direct in_ds0 0x1234))) 3
    ∷ row 0x3a (Transfers (LoadAcc false (Direct in_ds0 0x1234))) 3
    ∷ row 0x13 (Calculates (Inx DW)) 1
    ∷ row 0x3b (Calculates (Dcx BP)) 1
    ∷ row 0x19 (Calculates (Dad DW)) 1
    ∷ row 0x34 (Calculates (Inr M)) 1
    ∷ row 0x1d (Calculates (Dcr (Register DL))) 1
    ∷ row 0x26 (Transfers (Mov false (Register BH) (Immediate 0x34))) 2
    ∷ row 0x07 (Calculates (Rotate Rol)) 1
    ∷ row 0x0f (Calculates (Rotate Ror)) 1
    ∷ row 0x17 (Calculates (Rotate Rolc)) 1
    ∷ row 0x1f (Calculates (Rotate Rorc)) 1
    ∷ row 0x27 (Calculates Daa) 1
    ∷ row 0x2f (Calculates Cma) 1
    ∷ row 0x37 (Controls SetCy) 1
    ∷ row 0x3f (Controls NotCy) 1
    ∷ row 0x40 (Transfers (Mov false (Register CH) (Held (Register CH)))) 1
    ∷ row 0x41 (Transfers (Mov false (Register CH) (Held (Register CL)))) 1
    ∷ row 0x42 (Transfers (Mov false (Register CH) (Held (Register DH)))) 1
    ∷ row 0x43 (Transfers (Mov false (Register CH) (Held (Register DL)))) 1
    ∷ row 0x44 (Transfers (Mov false (Register CH) (Held (Register BH)))) 1
    ∷ row 0x45 (Transfers (Mov false (Register CH) (Held (Register BL)))) 1
    ∷ row 0x46 (Transfers (Mov false (Register CH) (Held M))) 1
    ∷ row 0x47 (Transfers (Mov false (Register CH) (Held (Register AL)))) 1
    ∷ row 0x53 (Transfers (Mov false (Register DH) (Held (Register DL)))) 1
    ∷ row 0x70 (Transfers (Mov false M (Held (Register CH)))) 1
    ∷ row 0x76 (Controls Halt) 1
    ∷ row 0x78 (Transfers (Mov false (Register AL) (Held (Register CH)))) 1
    ∷ row 0x80 (Calculates (Two Add (Held (Register CH)))) 1
    ∷ row 0x89 (Calculates (Two Addc (Held (Register CL)))) 1
    ∷ row 0x92 (Calculates (Two Sub (Held (Register DH)))) 1
    ∷ row 0x9b (Calculates (Two Subc (Held (Register DL)))) 1
    ∷ row 0xa4 (Calculates (Two And (Held (Register BH)))) 1
    ∷ row 0xad (Calculates (Two Xor (Held (Register BL)))) 1
    ∷ row 0xb6 (Calculates (Two Or (Held M))) 1
    ∷ row 0xbf (Calculates (Two Cmp (Held (Register AL)))) 1
    ∷ row 0xc6 (Calculates (Two Add (Immediate 0x34))) 2
    ∷ row 0xee (Calculates (Two Xor (Immediate 0x34))) 2
    ∷ row 0xc2 (Branches (JumpIf 5 0x1234)) 3
    ∷ row 0xca (Branches (JumpIf 4 0x1234)) 3
    ∷ row 0xd2 (Branches (JumpIf 3 0x1234)) 3
    ∷ row 0xda (Branches (JumpIf 2 0x1234)) 3
    ∷ row 0xe2 (Branches (JumpIf 11 0x1234)) 3
    ∷ row 0xea (Branches (JumpIf 10 0x1234)) 3
    ∷ row 0xf2 (Branches (JumpIf 9 0x1234)) 3
    ∷ row 0xfa (Branches (JumpIf 8 0x1234)) 3
    ∷ row 0xd8 (Branches (RetIf 2)) 1
    ∷ row 0xfc (Branches (CallIf 8 0x1234)) 3
    ∷ row 0xff (Branches (Rst 7)) 1
    ∷ row 0xc1 (Stacks (Pop CW)) 1
    ∷ row 0xc9 (Branches Ret) 1
    ∷ row 0xd1 (Stacks (Pop DW)) 1
    ∷ row 0xe1 (Stacks (Pop BW)) 1
    ∷ row 0xe9 (Branches Pchl) 1
    ∷ row 0xf1 (Stacks PopPsw) 1
    ∷ row 0xf9 (Transfers (Mov true (Register BP) (Held (Register BW)))) 1
    ∷ row 0xc3 (Branches (Jmp 0x1234)) 3
    ∷ row 0xd3 (Ports (Out false (Numbered 0x34))) 2
    ∷ row 0xdb (Ports (In false (Numbered 0x34))) 2
    ∷ row 0xe3 (Stacks Xthl) 1
    ∷ row 0xeb (Transfers (Xch true DW (Register BW))) 1
    ∷ row 0xf3 (Controls Di) 1
    ∷ row 0xfb (Controls Ei) 1
    ∷ row 0xc5 (Stacks (Push CW)) 1
    ∷ row 0xcd (Branches (Call 0x1234)) 3
    ∷ row 0xd5 (Stacks (Push DW)) 1
    ∷ row 0xe5 (Stacks (Push BW)) 1
    ∷ row 0xf5 (Stacks PushPsw) 1
    ∷ []

pub record CardRows : Type 0 where
  pub named : found rows ≡ stated rows
  pub calln : reads (0xed ∷ 0xed ∷ 0x12 ∷ []) ≡ known (Modes (Calln 0x12)) 3
  pub retem : reads (0xed ∷ 0xfd ∷ []) ≡ known (Modes Retem) 2

pub all_rows : CardRows
unfolding found stated scan reading.◌>>=◌ word operand_at card_pair_at condition_at card_byte card_word card_operation_at lxi_or_dad load_or_store on_al_or_cy cards00 cards01 cards10 pop_or_return jump_or_port after_ed push_or_call cards11 card_of card
all_rows = record { named = refl; calln = refl; retem = refl }
