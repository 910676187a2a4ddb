-- What each return of the code comes to, over plain values.
use Prim.Native.Nat.{ℕ, ◌+◌, ◌≤◌, ◌<◌}
use mathlib.Core.Path.{◌≡◌, refl}
use mathlib.Core.Bool.{Bool, true}
use mathlib.Core.List.{List}
use lib.Dec.{lit≤}
use lib.ListN.{get_or, set}
use native.Mathlib.Omega.{arith}
use Rattle.sheet.specs.declared.Address.{Address}
use Rattle.sheet.specs.declared.Bus.{Bus}
use Rattle.sheet.specs.declared.Flagged.{Flagged}
use Rattle.sheet.specs.declared.Operation.{Operation}
use Rattle.sheet.specs.declared.Operation.TheVariants.{Add, Or, Addc, Subc, And, Sub, Xor, Cmp}
use Rattle.sheet.specs.declared.Place.TheVariants.{Register, Memory}
use Rattle.sheet.specs.declared.Source.{Source}
use Rattle.sheet.specs.declared.Source.TheVariants.{Held, Immediate}
use Rattle.sheet.specs.declared.Spot.{Spot}
use Rattle.sheet.specs.declared.Spot.TheVariants.{InRegister, InMemory}
use Rattle.sheet.specs.declared.Unary.{Unary}
use Rattle.sheet.specs.Width.{mod_of, add16, sub16}
use Rattle.sheet.specs.Psw.{CY, flag_of}
use Rattle.sheet.specs.Registers.{SP, SS, PC, PSW, file_of, read_reg}
use Rattle.sheet.specs.Memory.{read_mem}
use Rattle.sheet.specs.Act.{Act}
use Rattle.sheet.specs.Handler.{◌⊕◌}
use Rattle.sheet.specs.FirstByte.{operation_at}
use Rattle.sheet.specs.Operand.{offset_of, base_of, locate, fetch, deposit, value_at, source_value, set_reg}
use Rattle.sheet.specs.Arithmetic.{Result, unary, finish, operate, conclude, two, one}
use Rattle.sheet.specs.Transfer.{mov, load_acc, store_acc}
use Rattle.sheet.specs.Traps.{pop_into}
use Rattle.sheet.specs.Stack.{push_register, pop_place}
use Rattle.sheet.specs.Branch.{jump, push_pc, call_near, ret}
use Rattle.sheet.specs.Contract.{OnFile, OnMemory, flagged}
use Rattle.sheet.proofs.Lifted.{file_pure, file_seq, file_registers, file_set, memory_seq, memory_free, memory_last, memory_at_most, on_memory}
use Rattle.calc_psw.proofs.Results.{file_affect, value_is}
use Rattle.mach_registers.proofs.Laws.{file_reg}
use Rattle.calc_arith.specs.Operate.{operated}
use Rattle.calc_arith.proofs.OperateLaws.{operate_ends}
use Rattle.mach_memory.specs.Accesses.{Loads, Stores}
use Rattle.mach_memory.proofs.Laws.{loads}
use Rattle.mach_stack.proofs.Laws.{push_is, pop_is}
use Rattle.quick_place.specs.Packed.{op_of, unary_at, word_of, rm_of, reg_of, disp_of, imm_of, address_of}
use Rattle.mach_tally.specs.Sums.{Free, Costs, Joins}
use Rattle.mach_tally.specs.Bounds.{Within}
use Rattle.mach_tally.proofs.Bounds.{within_access, within_memory}
use Rattle.quick_do.specs.Settle.{settle}
use Rattle.quick_memory.specs.Settled.{Moved, Operated}

pub located : (a : Address) (f : List ℕ) (g o : ℕ) → g ≡ base_of (file_of f) a → o ≡ offset_of (file_of f) a → OnFile Spot (locate (Memory a)) f (InMemory g o) f
unfolding locate
located a f g o e q = rw (e, q) (file_seq _ file_registers file_pure)

fetched : (w : Bool) (a : Address) (f ram rom : List ℕ) (g o v : ℕ) (n : Bus) → g ≡ base_of (file_of f) a → o ≡ offset_of (file_of f) a → Loads w ram rom g o v n
    → OnMemory ℕ (source_value w (Held (Memory a))) f ram rom v f ram n 2
unfolding source_value value_at fetch
fetched w a f ram rom g o v n e q h = memory_free _ (located a f g o e q) (h.at f)

held : (w : Bool) (m v : ℕ) (f : List ℕ) → v ≡ read_reg w (file_of f) m → OnFile ℕ (source_value w (Held (Register m))) f v f
unfolding source_value value_at locate fetch
held w m v f e = file_seq _ file_pure (file_reg w m e)

given : (w : Bool) (v : ℕ) (f : List ℕ) → OnFile ℕ (source_value w (Immediate v)) f v f
unfolding source_value
given w v f = file_pure

-- ---- MOV

mov_load : (w : Bool) (m : ℕ) (a : Address) (f h ram rom : List ℕ) (v : ℕ) (n : Bus) → OnMemory ℕ (source_value w (Held (Memory a))) f ram rom v f ram n 2
    → OnFile Unit (set_reg w m v) f tt h → OnMemory Unit (mov w (Register m) (Held (Memory a))) f ram rom tt h ram n 2
unfolding mov locate deposit
mov_load w m a f h ram rom v n x y = memory_last _ x (file_seq _ file_pure y)

mov_store : (w : Bool) (s : Source) (a : Address) (f ram ram' rom : List ℕ) (g o v : ℕ) (n : Bus) → OnFile ℕ (source_value w s) f v f
    → g ≡ base_of (file_of f) a → o ≡ offset_of (file_of f) a → Stores w ram g o v ram' n → OnMemory Unit (mov w (Memory a) s) f ram rom tt f ram' n 2
unfolding mov deposit
mov_store w s a f ram ram' rom g o v n x e q h = memory_free _ x (memory_free _ (located a f g o e q) (h.at f rom))

module _ (r : ℕ) (w : Bool) (f h ram ram' rom : List ℕ) (g o v : ℕ) (n : Bus) (wide : w ≡ word_of r) (at : g ≡ base_of (file_of f) (address_of r)) (off : o ≡ offset_of (file_of f) (address_of r)) where
  pub load_is : (m : ℕ) → v ≡ read_mem w ram rom g o → v < mod_of w → OnFile Unit (set_reg w m v) f tt h → Costs w o 0 n
      → OnMemory Unit (mov (word_of r) (Register m) (Held (Memory (address_of r)))) f ram rom tt h ram n 6
  load_is m e l y cost =
      rw (← wide) (memory_at_most {t = 2} 6 (lit≤ tt) (mov_load w m (address_of r) f h ram rom v n (fetched w (address_of r) f ram rom g o v n at off (loads w ram rom g o v n e l cost)) y))

  pub mov_to_is : Stores w ram g o v ram' n → Moved r v f ram rom ram' n
  mov_to_is y = record { from = λ s x. rw (← wide) (memory_at_most {t = 2} 6 (lit≤ tt) (mov_store w s (address_of r) f ram ram' rom g o v n (rw (← wide) at x) at off y)) }

module _ (r v : ℕ) (f ram ram' rom : List ℕ) (n : Bus) (x : Moved r v f ram rom ram' n) where
  pub mov_mr_is : (w : Bool) (m : ℕ) → w ≡ word_of r → m ≡ reg_of r → v ≡ read_reg w (file_of f) m
      → OnMemory Unit (mov (word_of r) (Memory (address_of r)) (Held (Register (reg_of r)))) f ram rom tt f ram' n 6
  mov_mr_is w m wide reg e = rw (← reg) (x.from (Held (Register m)) (rw (← wide) (held w m v f e)))

  pub store_acc_is : (w : Bool) → w ≡ word_of r → v ≡ read_reg w (file_of f) 0 → OnMemory Unit (store_acc (word_of r) (address_of r)) f ram rom tt f ram' n 6
  unfolding store_acc
  store_acc_is w wide e = x.from (Held (Register 0)) (rw (← wide) (held w 0 v f e))

  pub mov_mi_is : v ≡ imm_of r → OnMemory Unit (mov (word_of r) (Memory (address_of r)) (Immediate (imm_of r))) f ram rom tt f ram' n 6
  mov_mi_is e = rw (← e) (x.from (Immediate v) (given (word_of r) v f))

module _ (r : ℕ) (f h ram rom : List ℕ) (n : Bus) where
  pub mov_rm_is : (m : ℕ) → m ≡ reg_of r → OnMemory Unit (mov (word_of r) (Register m) (Held (Memory (address_of r)))) f ram rom tt h ram n 6
      → OnMemory Unit (mov (word_of r) (Register (reg_of r)) (Held (Memory (address_of r)))) f ram rom tt h ram n 6
  mov_rm_is m reg x = rw (← reg) x

  pub load_acc_is : OnMemory Unit (mov (word_of r) (Register 0) (Held (Memory (address_of r)))) f ram rom tt h ram n 6 → OnMemory Unit (load_acc (word_of r) (address_of r)) f ram rom tt h ram n 6
  unfolding load_acc
  load_acc_is x = x

-- ---- operations

alu_load : (op : Operation) (w : Bool) (m : ℕ) (a : Address) (f h ram rom : List ℕ) (b : ℕ) (n : Bus) → OnMemory ℕ (source_value w (Held (Memory a))) f ram rom b f ram n 2
    → OnFile Unit (settle op w (InRegister m) (read_reg w (file_of f) m) b) f tt h → OnMemory Unit (two op w (Register m) (Held (Memory a))) f ram rom tt h ram n 2
unfolding two settle locate fetch
alu_load op w m a f h ram rom b n x y = memory_free _ file_pure (memory_free _ (file_reg w m refl) (memory_last _ x y))

-- with both operands at hand
settles : (op : Operation) (w : Bool) (s : Spot) (a b : ℕ) (x : Flagged) (f g ram ram' rom : List ℕ) (n : Bus) (t : ℕ) → x ≡ flagged (operated op w a b (flag_of (get_or f PSW 0) CY)) (get_or f PSW 0)
    → OnMemory Unit (conclude op w s x.value) (set f PSW x.psw) ram rom tt g ram' n t → OnMemory Unit (settle op w s a b) f ram rom tt g ram' n t
unfolding settle
settles op w s a b x f g ram ram' rom n t e h =
    let o = operated op w a b (flag_of (get_or f PSW 0) CY) in
    let z : OnFile Result (operate op w a b) f o f = record { at = λ s ram rom tape log. operate_ends op w a b _ } in
    memory_free _ z (memory_free _ (file_affect o f x e) (rw (value_is o f x e) at h))

alu_store : (op : Operation) (w : Bool) (s : Source) (a : Address) (f h ram ram' rom : List ℕ) (g o x y : ℕ) (n k : Bus) → g ≡ base_of (file_of f) a → o ≡ offset_of (file_of f) a → Loads w ram rom g o x n
    → OnFile ℕ (source_value w s) f y f → OnMemory Unit (settle op w (InMemory g o) x y) f ram rom tt h ram' k 2 → OnMemory Unit (two op w (Memory a) s) f ram rom tt h ram' (n ⊕ k) 4
unfolding two settle fetch
alu_store op w s a f h ram ram' rom g o x y n k e q l z p = memory_free _ (located a f g o e q) (memory_seq _ {t = 2} {u = 2} (l.at f) (memory_free _ z p))

module _ (r : ℕ) (w : Bool) (f h ram ram' rom : List ℕ) (g o : ℕ) (n : Bus) (wide : w ≡ word_of r) (at : g ≡ base_of (file_of f) (address_of r)) (off : o ≡ offset_of (file_of f) (address_of r))
    (v : ℕ) (e : v ≡ read_mem w ram rom g o) (l : v < mod_of w) (cost : Costs w o 0 n) where
  pub alu_rm_is : (op : Operation) (m : ℕ) → op ≡ operation_at (op_of r) → m ≡ reg_of r → OnFile Unit (settle op w (InRegister m) (read_reg w (file_of f) m) v) f tt h
      → OnMemory Unit (two (operation_at (op_of r)) (word_of r) (Register (reg_of r)) (Held (Memory (address_of r)))) f ram rom tt h ram n 6
  alu_rm_is op m known reg y =
      rw (← known, ← wide, ← reg) (memory_at_most {t = 2} 6 (lit≤ tt) (alu_load op w m (address_of r) f h ram rom v n (fetched w (address_of r) f ram rom g o v n at off (loads w ram rom g o v n e l cost)) y))

  pub alu_at_is : (op : Operation) (b : ℕ) (k t : Bus) (x : Flagged) → op ≡ operation_at (op_of r) → x ≡ flagged (operated op w v b (flag_of (get_or f PSW 0) CY)) (get_or f PSW 0)
      → OnMemory Unit (conclude op w (InMemory g o) x.value) (set f PSW x.psw) ram rom tt h ram' k 2 → Joins n k t
      → Operated r b f ram rom h ram' t
  alu_at_is op b k t x known z y j = record {
    from = λ s q.
        rw (← known, ← wide, j.is)
        (memory_at_most {t = 4} 6 (lit≤ tt)
        (alu_store op w s (address_of r) f h ram ram' rom g o v b n k at off (loads w ram rom g o v n e l cost) (rw (← wide) at q)
        (settles op w (InMemory g o) v b x f h ram ram' rom k 2 z y)));
  }

-- what one step comes to fits many times over
both_fit : {t u : ℕ} (a b : Bus) → Within a t → Within b u → t + u ≤ 1000000000 → a.cycles + b.cycles + (a.dropped + b.dropped) ≤ 4294967295
both_fit a b x y h = let c = x.cycles in let d = x.dropped in let e = y.cycles in let f = y.dropped in omega arith

pub access_fits : (w : Bool) (o : ℕ) (n k : Bus) {A : Type 0} {p : Act A} {f ram rom f' ram' : List ℕ} {a : A} → Costs w o 0 n → OnMemory A p f ram rom a f' ram' k 2
    → n.cycles + k.cycles + (n.dropped + k.dropped) ≤ 4294967295
access_fits w o n k x y = both_fit n k (within_access x) (within_memory y) (lit≤ tt)

module _ (r v : ℕ) (f h ram ram' rom : List ℕ) (n : Bus) (x : Operated r v f ram rom h ram' n) where
  pub alu_mr_is : (w : Bool) (m : ℕ) → w ≡ word_of r → m ≡ reg_of r → v ≡ read_reg w (file_of f) m
      → OnMemory Unit (two (operation_at (op_of r)) (word_of r) (Memory (address_of r)) (Held (Register (reg_of r)))) f ram rom tt h ram' n 6
  alu_mr_is w m wide reg e = rw (← reg) (x.from (Held (Register m)) (rw (← wide) (held w m v f e)))

  pub alu_mi_is : v ≡ imm_of r → OnMemory Unit (two (operation_at (op_of r)) (word_of r) (Memory (address_of r)) (Immediate (imm_of r))) f ram rom tt h ram' n 6
  alu_mi_is e = rw (← e) (x.from (Immediate v) (given (word_of r) v f))

-- flags first, then the value to memory
pub finish_stores : (w : Bool) (g o : ℕ) (res : Result) (y : Flagged) (f ram ram' rom : List ℕ) (n : Bus) → y ≡ flagged res (get_or f PSW 0) → Stores w ram g o y.value ram' n
    → OnMemory Unit (finish w (InMemory g o) res) f ram rom tt (set f PSW y.psw) ram' n 2
unfolding finish deposit
finish_stores w g o res y f ram ram' rom n e h = memory_free _ (file_affect res f y e) (rw (value_is res f y e) at (h.at (set f PSW y.psw) rom))

one_store : (op : Unary) (w : Bool) (a : Address) (f ram ram' rom : List ℕ) (g o x : ℕ) (y : Flagged) (n k : Bus) → g ≡ base_of (file_of f) a → o ≡ offset_of (file_of f) a → Loads w ram rom g o x n
    → y ≡ flagged (unary op w x) (get_or f PSW 0) → Stores w ram g o y.value ram' k → OnMemory Unit (one op w (Memory a)) f ram rom tt (set f PSW y.psw) ram' (n ⊕ k) 4
unfolding one fetch
one_store op w a f ram ram' rom g o x y n k e q l z h =
    memory_free _ (located a f g o e q) (memory_seq _ {t = 2} {u = 2} (l.at f) (finish_stores w g o (unary op w x) y f ram ram' rom k z h))

pub one_m_is : (r : ℕ) (op : Unary) (w : Bool) (f ram ram' rom : List ℕ) (g o v : ℕ) (n k t : Bus) (y : Flagged) → op ≡ unary_at (op_of r) → w ≡ word_of r → g ≡ base_of (file_of f) (address_of r) → o ≡ offset_of (file_of f) (address_of r)
    → v ≡ read_mem w ram rom g o → v < mod_of w → Costs w o 0 n → y ≡ flagged (unary op w v) (get_or f PSW 0) → Stores w ram g o y.value ram' k → Joins n k t
    → OnMemory Unit (one (unary_at (op_of r)) (word_of r) (Memory (address_of r))) f ram rom tt (set f PSW y.psw) ram' t 6
one_m_is r op w f ram ram' rom g o v n k t y known wide at off e l cost z h j =
    rw (← known, ← wide, j.is)
    (memory_at_most {t = 4} 6 (lit≤ tt) (one_store op w (address_of r) f ram ram' rom g o v y n k at off (loads w ram rom g o v n e l cost) z h))

pub store_fits : (w : Bool) (o : ℕ) (n k : Bus) (g v : ℕ) (ram ram' : List ℕ) → Costs w o 0 n → Stores w ram g o v ram' k → n.cycles + k.cycles + (n.dropped + k.dropped) ≤ 4294967295
store_fits w o n k g v ram ram' x y = access_fits w o n k x (y.at ram ram)

module _ (w : Bool) (g o v : ℕ) (f ram rom : List ℕ) where
  pub drops_cmp : (op : Operation) (n : Bus) → op ≡ Cmp → Free n → OnMemory Unit (conclude op w (InMemory g o) v) f ram rom tt f ram n 2
  unfolding conclude
  drops_cmp op n e q = rw (q.is, e) (on_memory ram rom 2 file_pure)

  pub puts : (op : Operation) (ram' : List ℕ) (n : Bus) → (op ≡ Cmp → ⊥) → Stores w ram g o v ram' n → OnMemory Unit (conclude op w (InMemory g o) v) f ram rom tt f ram' n 2
  unfolding conclude deposit
  puts Add ram' n z y = y.at f rom
  puts Or ram' n z y = y.at f rom
  puts Addc ram' n z y = y.at f rom
  puts Subc ram' n z y = y.at f rom
  puts And ram' n z y = y.at f rom
  puts Sub ram' n z y = y.at f rom
  puts Xor ram' n z y = y.at f rom
  puts Cmp ram' n z y = absurd (z refl)

-- ---- the stack and branches

module _ (r m : ℕ) (f ram ram' rom : List ℕ) where
  pub push_r_is : (x ss sp v : ℕ) (n : Bus) → m ≡ rm_of r → x ≡ sub16 (get_or f SP 0) 2 → ss ≡ get_or (set f SP x) SS 0 → sp ≡ get_or (set f SP x) SP 0 → v ≡ read_reg true (file_of (set f SP x)) m
      → Stores true ram ss sp v ram' n → OnMemory Unit (push_register (rm_of r)) f ram rom tt (set f SP x) ram' n 6
  unfolding push_register read_reg
  push_r_is x ss sp v n d e q k z y =
      rw (← d) (memory_at_most {t = 2} 6 (lit≤ tt)
      (memory_free _ file_registers (rw (← e) (memory_free _ (file_set SP x) (memory_free _ file_registers (rw (← z, ← q, ← k) (y.at (set f SP x) rom)))))))

  pub pop_r_is : (ss sp next v : ℕ) (n : Bus) (h : List ℕ) → m ≡ rm_of r → sp ≡ get_or f SP 0 → ss ≡ get_or f SS 0 → next ≡ add16 sp 2 → v ≡ read_mem true ram rom ss sp → v < 65536
      → OnFile Unit (set_reg true m v) (set f SP next) tt h → Costs true sp 0 n → OnMemory Unit (pop_place (Register (rm_of r))) f ram rom tt h ram n 6
  unfolding pop_place locate deposit
  pop_r_is ss sp next v n h d e q z y b x c =
      rw (← d) (memory_at_most {t = 2} 6 (lit≤ tt)
      (memory_last _ (pop_is f ram rom v sp ss next n e q z (loads true ram rom ss sp v n y b c)) (file_seq _ file_pure x)))

pub call_is : (r : ℕ) (f h ram ram' rom : List ℕ) (pc ss sp d : ℕ) (n : Bus) → pc ≡ get_or f PC 0 → sp ≡ sub16 (get_or f SP 0) 2 → ss ≡ get_or f SS 0 → Stores true ram ss sp pc ram' n → d ≡ disp_of r
    → OnFile Unit (jump d) (set f SP sp) tt h → OnMemory Unit (call_near (disp_of r)) f ram rom tt h ram' n 6
unfolding call_near push_pc
call_is r f h ram ram' rom pc ss sp d n p e q y k x =
    rw (← k) (memory_at_most {t = 2} 6 (lit≤ tt) (memory_last _ (memory_free _ file_registers (rw (← p) (push_is f ram rom ram' pc sp ss n e q y))) x))

pub ret_is : (f ram rom : List ℕ) (ss sp next v : ℕ) (n : Bus) → sp ≡ get_or f SP 0 → ss ≡ get_or f SS 0 → next ≡ add16 sp 2 → v ≡ read_mem true ram rom ss sp → v < 65536 → Costs true sp 0 n
    → OnMemory Unit ret f ram rom tt (set (set f SP next) PC v) ram n 6
unfolding ret pop_into
ret_is f ram rom ss sp next v n e q z y b c =
    memory_at_most {t = 2} 6 (lit≤ tt) (memory_last _ (pop_is f ram rom v sp ss next n e q z (loads true ram rom ss sp v n y b c)) (file_set PC v))
