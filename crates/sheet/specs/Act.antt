-- An instruction's operation as a tree of acts, written like the sheet's operation column.
-- 01:66; 02 m
use Rattle.std.specs.Prelude.{ℕ, zero, suc, ◌+◌, Bool}
use Rattle.sheet.specs.Registers.{File}
use Rattle.sheet.specs.Psw.{Flag, Effect, Column, column, only, entering, restored, Crossing}

infixl 55 ◌>>=◌
infixl 55 ◌>>◌
infix 60 ◌≔◌
-- a node to an act; A is what the tree hands on. A Bool is a width (true: word), but for `ask` and `halt`
pub data Act (A : Type 0) : Type 0 where
  pure : A → Act A
  refuse : ℕ → Act A
  -- the register file is read; a register is written
  get : (File → Act A) → Act A
  put : (register v : ℕ) → Act A → Act A
  -- a flag is asked; PSW, or its low byte, is copied; flags are changed
  ask : Flag → (Bool → Act A) → Act A
  copy : Bool → (ℕ → Act A) → Act A
  flags : (Flag → Effect) → Act A → Act A
  -- data memory, at segment and offset
  load : Bool → (segment offset : ℕ) → (ℕ → Act A) → Act A
  store : Bool → (segment offset v : ℕ) → Act A → Act A
  input : Bool → (port : ℕ) → (ℕ → Act A) → Act A
  output : Bool → (port v : ℕ) → Act A → Act A
  halt : Bool → Act A → Act A
  -- MD and the permission to write it
  cross : Crossing → Act A → Act A

unfoldable pub ◌>>=◌ : {A B : Type 0} → Act A → (A → Act B) → Act B
pure a >>= f = f a
refuse n >>= f = refuse n
get k >>= f = get (λ r. k r >>= f)
put n v p >>= f = put n v (p >>= f)
ask q k >>= f = ask q (λ b. k b >>= f)
copy w k >>= f = copy w (λ x. k x >>= f)
flags c p >>= f = flags c (p >>= f)
load w g o k >>= f = load w g o (λ v. k v >>= f)
store w g o v p >>= f = store w g o v (p >>= f)
input w n k >>= f = input w n (λ v. k v >>= f)
output w n v p >>= f = output w n v (p >>= f)
halt b p >>= f = halt b (p >>= f)
cross c p >>= f = cross c (p >>= f)

abbrev pub ◌>>◌ : {A B : Type 0} → Act A → Act B → Act B
p >> q = p >>= (λ _. q)

-- ---- the acts by name, as trees of one node

abbrev pub registers : Act File
registers = get pure

-- register n becomes v
abbrev pub ◌≔◌ : ℕ → ℕ → Act Unit
n ≔ v = put n v (pure tt)

abbrev pub flag : Flag → Act Bool
flag f = ask f pure

-- PSW as PUSH PSW and traps store it (true), or its low byte (false)
abbrev pub psw : Bool → Act ℕ
psw w = copy w pure

-- a row's flag columns
abbrev pub affect : Column → Act Unit
affect c = flags (column c) (pure tt)

-- one flag alone
abbrev pub set_flag : Flag → Bool → Act Unit
set_flag f b = flags (only f b) (pure tt)

-- IE and BRK become 0
abbrev pub clear_ie_brk : Act Unit
clear_ie_brk = flags entering (pure tt)

-- the flags of a stored PSW
abbrev pub restore : ℕ → Act Unit
restore x = flags (restored x) (pure tt)

abbrev pub peek : Bool → ℕ → ℕ → Act ℕ
peek w g o = load w g o pure

abbrev pub poke : Bool → ℕ → ℕ → ℕ → Act Unit
poke w g o v = store w g o v (pure tt)

abbrev pub inp : Bool → ℕ → Act ℕ
inp w n = input w n pure

abbrev pub out : Bool → ℕ → ℕ → Act Unit
out w n v = output w n v (pure tt)

abbrev pub halted : Bool → Act Unit
halted b = halt b (pure tt)

abbrev pub crossing : Crossing → Act Unit
crossing c = cross c (pure tt)

-- ---- the body at i, i + 1, .., k times; each hands on to the next
unfoldable pub loop : {A : Type 0} → (ℕ → A → Act A) → ℕ → ℕ → A → Act A
loop body zero i a = pure a
loop body (suc k) i a = do
  b ← body i a
  loop body k (i + 1) b
