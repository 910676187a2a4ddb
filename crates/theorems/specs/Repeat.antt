-- Demand 3: a repeated block instruction, whatever falls between its steps. Stated over any steps and interrupt calls.
use Rattle.std.specs.Prelude.{ℕ, zero, suc, ◌-◌, ◌<◌, Bool, true, false, not, ◌&&◌, List, [], ◌∷◌, ◌++◌, ◌≡◌, T, length, set}
use Rattle.sheet.specs.declared.Primitive.{Primitive}
use Rattle.sheet.specs.declared.Primitive.TheVariants.{Movbk, Cmpbk, Cmpm, Ldm, Stm, Inm, Outm}
use Rattle.sheet.specs.declared.Repeat.{Repeat}
use Rattle.sheet.specs.declared.Repeat.TheVariants.{Once, WhileZ, WhileNotZ, WhileCy, WhileNotCy}
use Rattle.sheet.specs.declared.Instr.TheVariants.{Blocks}
use Rattle.sheet.specs.Width.{pick, add16}
use Rattle.sheet.specs.Psw.{CY, Z, BRK, DIR, flag_of}
use Rattle.sheet.specs.Registers.{CW, IX, IY, DS1, PS, PC, file_of, segment}
use Rattle.sheet.specs.Memory.{physical, next, byte_at}
use Rattle.sheet.specs.World.{World, psw_of}
use Rattle.sheet.specs.Handler.{Event, Outcome, refused, done, run, happened}
use Rattle.sheet.specs.Reading.{known}
use Rattle.sheet.specs.Block.{stepped_of, primitive}
use Rattle.sheet.specs.Step.{code_at, instruction_in}

-- ---- the instruction

-- a block instruction as it is read: its primitive, width, source segment and repeat, and how many bytes it has
pub record Block : Type 0 where
  pub kind : Primitive
  pub word : Bool
  pub seg : ℕ
  pub repeat : Repeat
  pub size : ℕ

-- what a primitive works on: memory alone; a block at IX, and one at IY; whether it writes the second, or compares
pub record Kind : Type 0 where
  pub memory : Bool
  pub source : Bool
  pub target : Bool
  pub writes : Bool
  pub compares : Bool

abbrev pub kind_of : Primitive → Kind
kind_of Movbk = record { memory = true; source = true; target = true; writes = true; compares = false }
kind_of Cmpbk = record { memory = true; source = true; target = true; writes = false; compares = true }
kind_of Cmpm = record { memory = true; source = false; target = true; writes = false; compares = true }
kind_of Ldm = record { memory = true; source = true; target = false; writes = false; compares = false }
kind_of Stm = record { memory = true; source = false; target = true; writes = true; compares = false }
kind_of Inm = record { memory = false; source = false; target = true; writes = true; compares = false }
kind_of Outm = record { memory = false; source = true; target = false; writes = false; compares = false }

-- move, compare, search, load, store: INM and OUTM are not meant
abbrev pub of_memory : Primitive → Bool
of_memory k = (kind_of k).memory

abbrev pub has_source : Primitive → Bool
has_source k = (kind_of k).source

abbrev pub has_target : Primitive → Bool
has_target k = (kind_of k).target

abbrev pub writes_target : Primitive → Bool
writes_target k = (kind_of k).writes

abbrev pub repeats : Repeat → Bool
repeats Once = false
repeats WhileZ = true
repeats WhileNotZ = true
repeats WhileCy = true
repeats WhileNotCy = true

-- a comparison that leaves this PSW lets the repeat go on
abbrev pub meets : Repeat → (psw : ℕ) → Bool
meets Once x = false
meets WhileZ x = flag_of x Z
meets WhileNotZ x = not (flag_of x Z)
meets WhileCy x = flag_of x CY
meets WhileNotCy x = not (flag_of x CY)

-- it ends the repeat; the other primitives ignore flags
abbrev pub ends : Primitive → Repeat → (psw : ℕ) → Bool
ends k q x = (kind_of k).compares && not (meets q x)

-- ---- single primitives

-- one, as the definition has it
unfoldable pub single : Block → World → Outcome Unit
single i w = run (primitive i.kind i.word i.seg) w

-- the world that an outcome leaves, begun in w
abbrev pub left : World → Outcome Unit → World
left w (refused n t) = w
left w (done a v t) = v

-- j of them, one after the other
unfoldable pub singles : Block → World → ℕ → World
singles i w zero = w
singles i w (suc j) = left (singles i w j) (single i (singles i w j))

-- the first j of 1 .. n at which f holds, or else n
unfoldable pub first_or : ℕ → (ℕ → Bool) → ℕ
first_or zero f = zero
first_or (suc n) f = pick (f 1) 1 (suc (first_or n (λ j. f (suc j))))

abbrev pub reg : World → ℕ → ℕ
reg w n = file_of w.state.file n

-- k of demand 3: how many elements are done
unfoldable pub elements : Block → World → ℕ
elements i w = first_or (reg w CW) (λ j. ends i.kind i.repeat (psw_of (singles i w j).state))

-- ---- its bytes and its blocks

-- an index register after j elements
unfoldable pub walk : (down word : Bool) → ℕ → ℕ → ℕ
walk d b o zero = o
walk d b o (suc j) = stepped_of b d (walk d b o j)

-- a is an address of the element at a segment and an offset
pub data InElement (segment offset a : ℕ) : Bool → Type 0 where
  low : {b : Bool} → a ≡ physical segment offset → InElement segment offset a b
  high : a ≡ physical segment (next offset) → InElement segment offset a true

-- of element j of either block, where the instruction begins in w
abbrev pub InSource : Block → World → ℕ → ℕ → Type 0
InSource i w j a = InElement (reg w (segment i.seg)) (walk (flag_of (psw_of w.state) DIR) i.word (reg w IX) j) a i.word

abbrev pub InTarget : Block → World → ℕ → ℕ → Type 0
InTarget i w j a = InElement (reg w DS1) (walk (flag_of (psw_of w.state) DIR) i.word (reg w IY) j) a i.word

-- the addresses of its own bytes and of its blocks, n elements each
pub data Kept (i : Block) (w : World) (n a : ℕ) : Type 0 where
  own_byte : (j : ℕ) → j < i.size → a ≡ code_at (reg w PS) (reg w PC) j → Kept i w n a
  source_byte : (j : ℕ) → j < n → T (has_source i.kind) → InSource i w j a → Kept i w n a
  target_byte : (j : ℕ) → j < n → T (has_target i.kind) → InTarget i w j a → Kept i w n a

-- it never writes on its own bytes: no byte of RAM that it writes is one of them
abbrev pub NeverOnItself : Block → World → Type 0
NeverOnItself i w =
    (j c a : ℕ) → j < reg w CW → T (writes_target i.kind) → InTarget i w j a → a < length w.ram
    → c < i.size → a ≡ code_at (reg w PS) (reg w PC) c → ⊥

-- the offset just past it
abbrev pub past : Block → World → ℕ
past i w = add16 (reg w PC) i.size

-- registers with another CW and PC
abbrev pub placed : (cw pc : ℕ) → List ℕ → List ℕ
placed c p f = set (set f CW c) PC p

-- ---- calls

-- What a caller sees of the two calls. `Step w n v o`: a step from w answers the number n, leaves the world v and shows o of
-- its accesses; n = 0 is "accepted". `of` says what is shown of events.
pub record Engine : Type 1 where
  pub Shown : Type 0
  pub of : List Event → Shown
  pub Step : World → ℕ → World → Shown → Type 0
  pub Interrupt : (vector : ℕ) (maskable : Bool) → World → ℕ → World → Shown → Type 0

-- it puts back every register and flag, PC and PSW among them, and every byte in K
pub record Restores (K : ℕ → Type 0) (w v : World) : Type 0 where
  pub registers : v.state.file ≡ w.state.file
  pub kept : (a : ℕ) → K a → byte_at v.ram v.rom a ≡ byte_at w.ram w.rom a

module _ (E : Engine) where
  -- an accepted call, and finitely many
  pub data Call (w v : World) : Type 0 where
    stepped : (o : E.Shown) → E.Step w 0 v o → Call w v
    interrupted : (vector : ℕ) (maskable : Bool) (o : E.Shown) → vector < 256 → E.Interrupt vector maskable w 0 v o → Call w v

  pub data Calls (w : World) : World → Type 0 where
    no_call : Calls w w
    and_then_lem : {v u : World} → Calls w v → Call v u → Calls w u

  -- a service: an accepted interrupt call, and finitely many accepted calls after it; the machine is then not halted
  pub record Service (w v : World) : Type 0 where
    pub vector : ℕ
    pub maskable : Bool
    pub entry : World
    pub shown : E.Shown
    pub in_range : vector < 256
    pub taken : E.Interrupt vector maskable w 0 entry shown
    pub served : Calls entry v
    pub up_again : v.state.marks.halted ≡ false

  -- what may fall before an own step: nothing, or a service that restores
  pub data Gap (K : ℕ → Type 0) (w v : World) : Type 0 where
    quiet : v ≡ w → Gap K w v
    service : Service w v → Restores K w v → Gap K w v

  -- `Own K w j l v`: begun in w, v is the world just after the j-th own step, and l is what the own steps showed
  pub data Own (K : ℕ → Type 0) (w : World) : ℕ → List E.Shown → World → Type 0 where
    begun : Own K w zero [] w
    next_own : {j : ℕ} {l : List E.Shown} {o : E.Shown} {v v' v'' : World} → Own K w j l v → Gap K v v' → E.Step v' 0 v'' o
        → Own K w (suc j) (l ++ (o ∷ [])) v''

  -- a step from w is answered, in whatever way
  abbrev pub Answered : World → Type 0
  Answered w = (n : ℕ) × (v : World) × (o : E.Shown) × E.Step w n v o

  -- what the first j single primitives show
  unfoldable pub shown : Block → World → ℕ → List E.Shown
  shown i w zero = []
  shown i w (suc j) = shown i w j ++ (E.of (happened (single i (singles i w j))) ∷ [])

  -- what demand 3 takes: an accepted repeated block instruction at PS:PC, BRK clear, that never writes on its own bytes
  pub record Taken (i : Block) (w : World) : Type 0 where
    pub read : instruction_in w ≡ known (Blocks i.kind i.word i.seg i.repeat) i.size
    pub blocks : of_memory i.kind ≡ true
    pub repeated : repeats i.repeat ≡ true
    pub accepted : (v : World) × (o : E.Shown) × E.Step w 0 v o
    pub untraced : flag_of (psw_of w.state) BRK ≡ false
    pub clean : NeverOnItself i w
    -- fourteen registers, CW of 16 bits
    pub whole : length w.state.file ≡ 14
    pub sixteen : reg w CW < 65536

  -- Just after own step j: registers other than PC as j single primitives leave them, with CW counted down; PC at p; each byte
  -- in K as they leave it; and each own step showed what its single primitive shows.
  pub record After (i : Block) (w : World) (K : ℕ → Type 0) (p j : ℕ) (l : List E.Shown) (v : World) : Type 0 where
    pub registers : v.state.file ≡ placed (reg w CW - j) p (singles i w j).state.file
    pub kept : (a : ℕ) → K a → byte_at v.ram v.rom a ≡ byte_at (singles i w j).ram (singles i w j).rom a
    pub accesses : l ≡ shown i w j
    pub awake : v.state.marks.halted ≡ false

  -- What demand 3 claims, with k elements done and services that put back K.
  pub record Claimed (i : Block) (w : World) (k : ℕ) (K : ℕ → Type 0) : Type 0 where
    -- CW = 0: one step is accepted, moves PC alone, and makes no access
    pub empty : reg w CW ≡ 0 → (n : ℕ) (v u : World) (o : E.Shown) → Gap K w v → E.Step v n u o
        → (n ≡ 0) × (u.state.file ≡ set w.state.file PC (past i w)) × (u.ram ≡ v.ram) × (o ≡ E.of [])
    -- whatever falls between, each of the k steps is accepted
    pub goes_on : (j n : ℕ) (l : List E.Shown) (o : E.Shown) (v v' v'' : World) → j < k → Own K w j l v → Gap K v v' → E.Step v' n v'' o → n ≡ 0
    -- after each step before the k-th, PC is on the first byte
    pub on_the_way : (j : ℕ) (l : List E.Shown) (v : World) → j < k → Own K w j l v → After i w K (reg w PC) j l v
    -- after the k-th it is just past
    pub at_the_end : (l : List E.Shown) (v : World) → 0 < k → Own K w k l v → After i w K (past i w) k l v
    -- and so it ends, under any plan of what falls between, if each of these steps is answered
    pub comes_to_an_end :
        ((j : ℕ) (l : List E.Shown) (v : World) → j < k → Own K w j l v → (v' : World) × Gap K v v' × Answered v')
        → (l : List E.Shown) × (v : World) × Own K w k l v
    -- k is 0 only with CW = 0
    pub some_element : 0 < reg w CW → 0 < k

  -- DEMAND 3. A service puts back at least the own bytes and the k elements of each block; what it puts back besides, K, is
  -- then also as the single primitives leave it.
  abbrev pub Demand3 : Type 1
  Demand3 =
      (i : Block) (w : World) → Taken i w → (K : ℕ → Type 0) → ((a : ℕ) → Kept i w (elements i w) a → K a)
      → Claimed i w (elements i w) K
