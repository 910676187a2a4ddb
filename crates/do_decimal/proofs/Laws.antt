-- What each byte, each string and each instruction comes to, from what its parts come to.
use Prim.Native.Nat.{ℕ, ◌+◌, ◌*◌, ◌/◌, ◌%◌, ◌≤◌, ◌<◌}
use mathlib.Core.Path.{◌≡◌, refl, sym, ◌∙◌}
use mathlib.Core.Bool.{Bool, true, false, ◌&&◌}
use mathlib.Core.List.{List}
use native.Mathlib.Nat.{add-le-add}
use native.Mathlib.Omega.{arith}
use lib.Dec.{lit≤, eqb}
use lib.ListN.{get_or, set}
use Rattle.sheet.specs.declared.Bus.{Bus}
use Rattle.sheet.specs.declared.Chain.{Chain}
use Rattle.sheet.specs.declared.Digits.{Digits}
use Rattle.sheet.specs.declared.Place.{Place}
use Rattle.sheet.specs.declared.Spot.{Spot}
use Rattle.sheet.specs.declared.State.{State}
use Rattle.calc_flags.specs.declared.Flags.{Flags}
use Rattle.calc_flags.specs.Flags.{unpacked}
use Rattle.sheet.specs.Width.{add16}
use Rattle.sheet.specs.Psw.{unknown, becomes, columns, column, keeps, settled}
use Rattle.sheet.specs.Registers.{CW, IX, IY, DS1, PSW, AL, CL, file_of, segment, read_reg}
use Rattle.sheet.specs.Memory.{bus_cycles}
use Rattle.sheet.specs.World.{world, with_file}
use Rattle.sheet.specs.Act.{peek, poke}
use Rattle.sheet.specs.Handler.{◌⊕◌}
use Rattle.sheet.specs.Operand.{locate, fetch, deposit, set_reg}
use Rattle.sheet.specs.declared.Way.{Way}
use Rattle.sheet.specs.declared.Storing.{Storing}
use Rattle.sheet.specs.Decimal.{digits, stores, link, begun, chained, rol4, ror4, string}
use Rattle.sheet.specs.Contract.{OnFile, OnMemory}
use Rattle.sheet.proofs.Rules.{⊕_assoc}
use Rattle.sheet.proofs.Lifted.{file_seq, file_pure, file_registers, file_flags, memory_seq, memory_free, memory_last, memory_at_most, memory_true, file_false}
use Rattle.sheet.proofs.Loop.{Goes, goes_none, goes_more, goes_end}
use Rattle.mach_memory.specs.Accesses.{Loads, Stores}
use Rattle.mach_tally.specs.Sums.{Free, Costs, Joins}
use Rattle.mach_tally.specs.Bounds.{Fair}
use Rattle.mach_registers.proofs.Laws.{file_reg}
use Rattle.calc_decimal.proofs.RotateLaws.{set_wraps}
use Rattle.do_decimal.specs.Both.{Both}

-- ---- one byte of the strings

-- a byte takes one cycle
one_cycle : (o d : ℕ) (n : Bus) → Costs false o d n → n.cycles ≤ 1
unfolding bus_cycles
one_cycle o d n e = rw e.is (lit≤ tt)

loads_byte : {ram rom : List ℕ} {g o v : ℕ} {n : Bus} → Loads false ram rom g o v n → (f : List ℕ) → OnMemory ℕ (peek false g o) f ram rom v f ram n 1
loads_byte {o = o} {n = n} h f = record { most = one_cycle o 0 n h.cost; fair = h.fair; at = (h.at f).at }

stores_byte : {ram ram' : List ℕ} {g o v : ℕ} {n : Bus} → Stores false ram g o v ram' n → (f rom : List ℕ) → OnMemory Unit (poke false g o v) f ram rom tt f ram' n 1
stores_byte {o = o} {n = n} h f rom = record { most = one_cycle o _ n h.cost; fair = h.fair; at = (h.at f rom).at }

pub both_are : (f ram rom : List ℕ) (seg i g to from a b : ℕ) (n m r : Bus) → to ≡ add16 (get_or f IY 0) i → Loads false ram rom (get_or f DS1 0) to a n → g ≡ file_of f (segment seg)
    → from ≡ add16 (get_or f IX 0) i → Loads false ram rom g from b m → Joins n m r → Both f ram rom seg i a b r
both_are f ram rom seg i g to from a b n m r p x z q y j =
    let h = loads_byte x f in
    let k = loads_byte y f in
    record {
      most = rw j.is (add-le-add h.most k.most);
      fair = rw j.is (let a = h.fair in let b = k.fair in omega arith);
      first = n;
      second = m;
      sum = j.is;
      target = rw p at h;
      source = rw (z, q) at k;
    }

module _ (f ram rom : List ℕ) (way : Way) (storing : Storing) (stored : Bool) (seg i : ℕ) (c : Chain) (a b : ℕ) (d : Digits) (n : Bus) where
  pub link_stores : (ram' : List ℕ) (to : ℕ) (k : Bus) → Both f ram rom seg i a b n → d ≡ digits way a b c.cy → stored ≡ stores storing → stored ≡ true → to ≡ add16 (get_or f IY 0) i
      → Stores false ram (get_or f DS1 0) to d.value ram' k
      → OnMemory Chain (link way storing seg i c) f ram rom (record { cy = d.cy; zero = c.zero && eqb d.value 0 }) f ram' (n ⊕ k) 3
  unfolding link
  link_stores ram' to k h s e t q w =
      rw (h.sum, ⊕_assoc h.first h.second k)
      (memory_free _ file_registers
      (memory_seq _ {t = 1} {u = 2} h.target
      (memory_seq _ {t = 1} {u = 1} h.source (rw (← s, ← q) (memory_last _ (memory_true _ _ (sym e ∙ t) (stores_byte w f rom)) file_pure)))))

  pub link_compares : Both f ram rom seg i a b n → d ≡ digits way a b c.cy → stored ≡ stores storing → stored ≡ false
      → OnMemory Chain (link way storing seg i c) f ram rom (record { cy = d.cy; zero = c.zero && eqb d.value 0 }) f ram n 3
  unfolding link
  link_compares h s e t =
      rw h.sum
      (memory_free _ file_registers
      (memory_seq _ {t = 1} {u = 2} h.target
      (memory_at_most {t = 1} 2 (lit≤ tt) (memory_last _ h.source (rw (← s) (file_seq _ (file_false _ _ (sym e ∙ t) file_pure) file_pure))))))

-- ---- the strings

-- after i of n bytes, with c in hand, RAM as it then is and accesses that come to k, whatever else is in the world
pub record Turns (way : Way) (storing : Storing) (seg n : ℕ) (f ram rom : List ℕ) (i : ℕ) (c : Chain) (ram' : List ℕ) (k : Bus) : Type 0 where
  pub most : k.cycles ≤ 3 * i
  pub fair : Fair k
  pub at : (s : State) (tape log : List ℕ) → Goes Chain (link way storing seg) n begun (world (with_file s f) ram rom tape log) i c (world (with_file s f) ram' rom tape log) k

module _ (way : Way) (storing : Storing) (seg n : ℕ) (f ram rom : List ℕ) where
  pub turns_none : (k : Bus) → Free k → Turns way storing seg n f ram rom 0 begun ram k
  turns_none k e = rw e.is (record { most = lit≤ tt; fair = lit≤ tt; at = λ s tape log. goes_none Chain (link way storing seg) n begun (world (with_file s f) ram rom tape log) })

  pub turns_more : (i : ℕ) (c c' : Chain) (ram' ram'' : List ℕ) (k m r : Bus) → Turns way storing seg n f ram rom i c ram' k → i < n
      → OnMemory Chain (link way storing seg i c) f ram' rom c' f ram'' m 3 → Joins k m r → Turns way storing seg n f ram rom (i + 1) c' ram'' r
  turns_more i c c' ram' ram'' k m r t l h j =
      rw j.is
      (record {
        most = (let a = t.most in let b = h.most in omega arith);
        fair = (let a = t.fair in let b = h.fair in omega arith);
        at = λ s tape log. goes_more Chain (link way storing seg) n _ _ i c _ _ (t.at s tape log) c' _ m l (h.at s tape log);
      })

  pub turns_end : (i : ℕ) (c : Chain) (ram' : List ℕ) (k : Bus) → Turns way storing seg n f ram rom i c ram' k → n ≤ 128 → i ≤ n → n ≤ i
      → OnMemory Chain (chained way storing seg n) f ram rom c f ram' k 384
  unfolding chained
  turns_end i c ram' k t b l g =
      record {
        most = (let a = t.most in omega arith);
        fair = t.fair;
        at = λ s tape log. goes_end Chain (link way storing seg) n _ _ i c _ _ (t.at s tape log) g;
      }

pub string_psw_is : (x psw : ℕ) (c : Chain) (f : Flags) → f ≡ unpacked psw
    → x ≡ settled keeps (column (columns (becomes f.ac) (becomes c.cy) (becomes f.v) (becomes f.p) (becomes f.s) (becomes c.zero))) psw
    → x ≡ settled keeps (column (columns unknown (becomes c.cy) unknown unknown unknown (becomes c.zero))) psw
unfolding settled
string_psw_is x psw c f e q = q ∙ rw e

pub string_is : (f ram ram' rom : List ℕ) (way : Way) (storing : Storing) (seg : ℕ) (c : Chain) (n : Bus) (x : ℕ) → OnMemory Chain (chained way storing seg ((get_or f CW 0 % 256 + 1) / 2)) f ram rom c f ram' n 384
    → x ≡ settled keeps (column (columns unknown (becomes c.cy) unknown unknown unknown (becomes c.zero))) (get_or f PSW 0) → OnMemory Unit (string way storing seg) f ram rom tt (set f PSW x) ram' n 384
unfolding string read_reg
string_is f ram ram' rom way storing seg c n x h e =
    memory_free _ (file_reg false CL refl)
    (memory_last _ h (file_flags (column (columns unknown (becomes c.cy) unknown unknown unknown (becomes c.zero))) e))

-- ---- digits that go round

module _ (f g h ram ram' rom : List ℕ) (to : Place) (s : Spot) (al x y z : ℕ) (n m : Bus) where
  pub rol4_is : al ≡ read_reg false (file_of f) AL → OnFile Spot (locate to) f s f → OnMemory ℕ (fetch false s) f ram rom x f ram n 2 → y ≡ x % 16 * 16 + al % 16
      → OnMemory Unit (deposit false s y) f ram rom tt g ram' m 2 → z ≡ add16 (al / 16 * 16) (x / 16) → OnFile Unit (set_reg false AL z) g tt h
      → OnMemory Unit (rol4 to) f ram rom tt h ram' (n ⊕ m) 4
  unfolding rol4
  rol4_is e l p q k i j =
      memory_free _ (file_reg false AL e) (memory_free _ l (memory_seq _ {t = 2} {u = 2} p (rw (← q, ← set_wraps AL (al / 16 * 16) (x / 16), ← i) (memory_last _ k j))))

  pub ror4_is : al ≡ read_reg false (file_of f) AL → OnFile Spot (locate to) f s f → OnMemory ℕ (fetch false s) f ram rom x f ram n 2 → y ≡ al % 16 * 16 + x / 16
      → OnMemory Unit (deposit false s y) f ram rom tt g ram' m 2 → z ≡ al / 16 * 16 + x % 16 → OnFile Unit (set_reg false AL z) g tt h
      → OnMemory Unit (ror4 to) f ram rom tt h ram' (n ⊕ m) 4
  unfolding ror4
  ror4_is e l p q k i j = memory_free _ (file_reg false AL e) (memory_free _ l (memory_seq _ {t = 2} {u = 2} p (rw (← q, ← i) (memory_last _ k j))))
