-- The bounds are reached: PREPARE at level 255 with odd SP and BP makes 1,020 bus cycles, and the single-step trap after it 8; without RAM they drop 512 and 6 bytes.
use Prim.Native.Nat.{ℕ, zero, suc, ◌+◌, ◌*◌, ◌%◌, ◌≤◌, ◌<◌, zero-le}
use mathlib.Core.Path.{◌≡◌, refl, ap, ◌∙◌}
use mathlib.Core.Bool.{Bool, true, false}
use mathlib.Core.List.{List, []}
use native.Mathlib.Decide.{ℕ_discrete}
use native.Mathlib.Nat.{suc-mul, add_comm}
use native.Mathlib.Omega.{arith}
use lib.ListN.{length, get_or, set, length-set}
use lib.Seq.{get_or-set_same, get_or-set_other}
use lib.Dec.{lit≤, lit<}
use borrow.Author.Tests.{le-ltb}
use Rattle.sheet.specs.declared.Bus.{Bus}
use Rattle.sheet.specs.declared.Stack.TheVariants.{Prepare}
use Rattle.sheet.specs.declared.Instr.{Instr}
use Rattle.sheet.specs.Groups.{Stacks}
use Rattle.sheet.specs.Width.{wrap_of, sub16}
use Rattle.sheet.specs.Psw.{Flag, BRK, Effect, flag_of, native_of, fixed_of, entering, in_mode, to_native}
use Rattle.sheet.specs.Registers.{SP, BP, PC, PSW, File, file_of}
use Rattle.sheet.specs.Memory.{physical, byte_at, read_mem, write_mem, bus_cycles, lost, lost_bytes}
use Rattle.sheet.specs.Memory as memory
use Rattle.sheet.specs.World.{World, psw_of, crossed}
use Rattle.sheet.specs.Act.{Act, pure, flags, ◌>>=◌, registers, ◌≔◌, flag, psw, peek, halted, crossing, loop}
use Rattle.sheet.specs.Handler.{nothing, run, run_by, tally}
use Rattle.sheet.specs.Contract.{Seen, ends, exec, Ends, report, report_of, stops}
use Rattle.sheet.specs.Traps.{push, push_psw, push_ps_pc, jump_far, save, vectored, entered, trap, untrapped}
use Rattle.sheet.specs.Stack.{frame, frames, prepare, stack, pop_in}
use Rattle.sheet.specs.Execute.{moving, operation, execute}
use Rattle.sheet.specs.Reading as reading
use Rattle.sheet.specs.Reading.{scan, word}
use Rattle.sheet.specs.Encoding.{prefix_of, look_up}
use Rattle.sheet.specs.FirstByte.{after_prefix, prefixed, instruction}
use Rattle.sheet.specs.Step.{fits, sound, interrupting, single_step, loads_segment, moves_in, starting, stepping, step_report, instruction_in}
use Rattle.theorems.specs.Bounds.{Finds, Odd, OddIn, Makes, Loses, step_top, drop_top, preparing, preparing_in_rom}
use Rattle.theorems.proofs.BoundsRules.{even_cycles}
use Rattle.theorems.proofs.BoundsOperands.{even_first, even_second}
use Rattle.theorems.proofs.BoundsStep.{step_is}
use Rattle.sheet.proofs.Rules.{plus, and_then, exec_bind, ends_pure, ends_set, ends_flag, ends_psw, ends_flags, ends_halted, ends_crossing}

-- a tree hands on a after exactly n cycles, and leaves a world of which Q holds; where E holds, it has dropped exactly d bytes
pub data Exactly {A : Type 0} (E : Type 0) (Q : World → Type 0) (n d : ℕ) (a : A) : Seen A → Type 0 where
  exactly : {v : World} {m : Bus} → Q v → m.cycles ≡ n → (E → m.dropped ≡ d) → Exactly E Q n d a (ends a v m)

module _ {E : Type 0} where
  plus_exactly : {A : Type 0} {Q : World → Type 0} {x : A} (m : Bus) (a b c d : ℕ) (e : Seen A) → m.cycles ≡ a → (E → m.dropped ≡ c) → Exactly E Q b d x e
      → Exactly E Q (a + b) (c + d) x (plus m e)
  plus_exactly m a b c d (ends y v n) h k (exactly q g l) =
      let z : m.cycles + n.cycles ≡ a + b = rw (h, g) in
      let y : E → m.dropped + n.dropped ≡ c + d = λ e. rw (k e, l e) in
      exactly q z y
  plus_exactly {A = A} {Q = Q} m a b c d (stops _) h k x5 = elim x5 [ ]

  and_then_exactly : {A B : Type 0} {Q R : World → Type 0} {x : A} {y : B} (a b c d : ℕ) (e : Seen A) (f : A → World → Seen B) → Exactly E Q a c x e
      → ((v : World) → Q v → Exactly E R b d y (f x v)) → Exactly E R (a + b) (c + d) y (and_then e f)
  and_then_exactly a b c d (ends x v n) f (exactly q h k) g = plus_exactly n a b c d (f x v) h k (g v q)
  and_then_exactly {A = A} {B = B} {Q = Q} {R = R} {y = y} a b c d (stops _) f x4 g = elim x4 [ ]

  next : {A B : Type 0} {Q R : World → Type 0} {a b c d : ℕ} {x : A} {y : B} (p : Act A) (f : A → Act B) (w : World) → Exactly E Q a c x (exec p w)
      → ((v : World) → Q v → Exactly E R b d y (exec (f x) v)) → Exactly E R (a + b) (c + d) y (exec (p >>= f) w)
  next {a = a} {b = b} {c = c} {d = d} p f w h g = rw (exec_bind p f w) (and_then_exactly a b c d (exec p w) (λ x v. exec (f x) v) h g)

  -- a tree that is known to end without an access
  ended : {A : Type 0} {Q : World → Type 0} {p : Act A} {w v : World} {a : A} → Ends A p w a v nothing → Q v → Exactly E Q 0 0 a (exec p w)
  ended x q = rw x.is (exactly q refl (λ _. refl))

-- ---- odd stack and base pointers

still_odd : (f : List ℕ) (n m x : ℕ) → m < length f → get_or f m 0 % 2 ≡ 1 → (m ≡ n → x % 2 ≡ 1) → get_or (set f n x) m 0 % 2 ≡ 1
still_odd f n m x l h k = go (ℕ_discrete m n)
  where
    go : Dec (m ≡ n) → get_or (set f n x) m 0 % 2 ≡ 1
    go (yes e) = rw (e, get_or-set_same f n x 0 (rw e at l)) (k e)
    go (no d) = rw (get_or-set_other f n m x 0 d) h

-- any number may go into a segment register, PC or PSW, an odd one into the others
set_odd : (f : List ℕ) (n x : ℕ) → Odd f → (n < 8 → x % 2 ≡ 1) → Odd (set f n x)
set_odd f n x o h =
    record {
      whole = length-set f n x ∙ o.whole;
      sp = still_odd f n SP x (rw o.whole (lit< tt)) o.sp (λ e. h (omega arith));
      bp = still_odd f n BP x (rw o.whole (lit< tt)) o.bp (λ e. h (omega arith));
    }

lowered : (x : ℕ) → x % 2 ≡ 1 → sub16 x 2 % 2 ≡ 1
lowered x h = omega arith

odd_cycles : (o : ℕ) → o % 2 ≡ 1 → bus_cycles true o ≡ 2
unfolding bus_cycles
odd_cycles o h = omega arith

-- ---- without RAM

lost_all : (ram : List ℕ) (g o : ℕ) → ram ≡ [] → lost_bytes true ram g o + 0 ≡ 2
unfolding lost_bytes lost
lost_all ram g o e = rw (e, le-ltb (physical g o) 0 zero-le, le-ltb (physical g (memory.next o)) 0 zero-le)

wrote_none : (ram : List ℕ) (g o v : ℕ) → ram ≡ [] → write_mem true ram g o v ≡ []
unfolding write_mem
wrote_none ram g o v e = rw e

-- SP and BP are odd; where E holds, there is no RAM
record Ready (E : Type 0) (w : World) : Type 0 where
  odd : OddIn w
  bare : E → w.ram ≡ []

-- an even size leaves both pointers odd
abbrev ReadyAfter : (E : Type 0) → ℕ → World → Type 0
ReadyAfter E size v = size % 2 ≡ 0 → size ≤ 65535 → Ready E v

taken_off : (x size : ℕ) → x % 2 ≡ 1 → size % 2 ≡ 0 → size ≤ 65535 → sub16 x size % 2 ≡ 1
taken_off x size h e l = omega arith

abbrev pub prepare_at : ℕ → Instr
prepare_at size = Stacks (Prepare size 255)

-- ---- PREPARE

module _ {E : Type 0} where
  of_push : (v : ℕ) (w : World) → Ready E w → Exactly E (Ready E) 2 2 tt (exec (push v) w)
  unfolding exec run run_by push ◌>>=◌ tally
  of_push v w o =
      let h = lowered (get_or w.state.file SP 0) o.odd.sp in
      let c : bus_cycles true (sub16 (get_or w.state.file SP 0) 2) + 0 ≡ 2 = rw (odd_cycles _ h) in
      exactly (record { odd = set_odd _ SP _ o.odd (λ l. h); bare = λ e. wrote_none _ _ _ _ (o.bare e) }) c (λ e. lost_all _ _ _ (o.bare e))

  of_frame : (i : ℕ) (u : Unit {0}) (w : World) → Ready E w → Exactly E (Ready E) 4 2 tt (exec (frame i u) w)
  unfolding exec run run_by frame push ◌>>=◌ tally
  of_frame i u w o =
      let f : List ℕ = w.state.file in
      let h = lowered (get_or f BP 0) o.odd.bp in
      let o₁ : Odd (set f BP (sub16 (get_or f BP 0) 2)) = set_odd f BP (sub16 (get_or f BP 0) 2) o.odd (λ l. h) in
      let g = lowered (get_or (set f BP (sub16 (get_or f BP 0) 2)) SP 0) o₁.sp in
      let c : bus_cycles true (sub16 (get_or f BP 0) 2) + (bus_cycles true (sub16 (get_or (set f BP (sub16 (get_or f BP 0) 2)) SP 0) 2) + 0) ≡ 4 = rw (odd_cycles _ h, odd_cycles _ g) in
      exactly (record { odd = set_odd _ SP _ o₁ (λ l. g); bare = λ e. wrote_none _ _ _ _ (o.bare e) }) c (λ e. ap (λ n. 0 + n) (lost_all _ _ _ (o.bare e)))

  of_loop : (k i : ℕ) (w : World) → Ready E w → Exactly E (Ready E) (k * 4) (k * 2) tt (exec (loop frame k i tt) w)
  unfolding loop exec run run_by tally
  of_loop zero i w o = exactly o refl (λ _. refl)
  of_loop (suc k) i w o = rw (suc-mul k 4, add_comm (k * 4) 4, suc-mul k 2, add_comm (k * 2) 2) (next (frame i tt) (λ u. loop frame k (i + 1) u) w (of_frame i tt w o) (λ v q. of_loop k (i + 1) v q))

  of_frames : (n temp : ℕ) (w : World) → Ready E w → Exactly E (Ready E) (n * 4 + 2) (n * 2 + 2) tt (exec (frames (suc n) temp) w)
  unfolding frames
  of_frames n temp w o = next (loop frame n 0 tt) (λ _. push temp) w (of_loop n 0 w o) (λ v q. of_push temp v q)

  -- registers are read at no cost
  past : {A : Type 0} {Q : World → Type 0} {n d : ℕ} {x : A} (f : File → Act A) (w : World) → Exactly E Q n d x (exec (f (file_of w.state.file)) w) → Exactly E Q n d x (exec (registers >>= f) w)
  unfolding exec run run_by ◌>>=◌
  past f w h = h

  of_end : (b size : ℕ) (w : World) → Ready E w → b % 2 ≡ 1 → Exactly E (ReadyAfter E size) 0 0 tt (exec ((BP ≔ b) >>= λ _. registers >>= λ q. SP ≔ sub16 (q SP) size) w)
  unfolding exec run run_by ◌>>=◌ tally
  of_end b size w o h =
      let o₁ : Odd (set w.state.file BP b) = set_odd w.state.file BP b o.odd (λ l. h) in
      exactly (λ e l. record { odd = set_odd _ SP _ o₁ (λ k. taken_off _ size o₁.sp e l); bare = o.bare }) refl (λ _. refl)

  of_prepare : (size : ℕ) (w : World) → Ready E w → Exactly E (ReadyAfter E size) 1020 512 tt (exec (prepare size 255) w)
  unfolding prepare
  of_prepare size w o =
      past _ w (next (push _) _ w (of_push _ w o) (λ v q. next (frames 255 _) _ v (of_frames 254 _ v q) (λ x p. of_end _ size x p (lowered _ o.odd.sp))))

  -- the instruction

  of_pure : {A : Type 0} {Q : World → Type 0} {a : A} (w : World) → Q w → Exactly E Q 0 0 a (exec (pure a) w)
  of_pure w q = ended ends_pure q

  of_flag : (f : Flag) (b : Bool) (w : World) → flag_of (psw_of w.state) f ≡ b → Ready E w → Exactly E (Ready E) 0 0 b (exec (flag f) w)
  of_flag f b w e o = rw (← e) (ended (ends_flag f) o)

  of_pc : (x : ℕ) (w : World) → Ready E w → Exactly E (Ready E) 0 0 tt (exec (PC ≔ x) w)
  of_pc x w o = ended (ends_set PC x) (record { odd = set_odd w.state.file PC x o.odd (λ l. absurd (omega arith)); bare = o.bare })

  of_execute : (size n : ℕ) (w : World) → Ready E w → Exactly E (ReadyAfter E size) 1020 512 false (exec (execute (prepare_at size) n) w)
  unfolding execute moving operation untrapped stack
  of_execute size n w o =
      past _ w (next (PC ≔ _) _ w (of_pc _ w o) (λ v q. next (prepare size 255) _ v (of_prepare size v q) (λ x p. of_pure x p)))

  -- ---- the single-step trap: its vector is even, its three pushes are odd

  of_psw : (w : World) → Ready E w → Exactly E (Ready E) 0 0 (wrap_of true (psw_of w.state)) (exec (psw true) w)
  of_psw w o = ended (ends_psw true) o

  of_flags : (c : Flag → Effect) (w : World) → Ready E w → Exactly E (Ready E) 0 0 tt (exec {A = Unit {0}} (flags c (pure tt)) w)
  of_flags c w o = ended (ends_flags c refl) (record { odd = set_odd w.state.file PSW _ o.odd (λ l. absurd (omega arith)); bare = o.bare })

  of_vector : (o : ℕ) (w : World) → o % 2 ≡ 0 → Ready E w → Exactly E (Ready E) 1 0 (read_mem true w.ram w.rom 0 o) (exec (peek true 0 o) w)
  unfolding exec run run_by tally
  of_vector o w e h = exactly h (even_cycles o e) (λ _. refl)

  of_push_psw : (w : World) → Ready E w → Exactly E (Ready E) 2 2 tt (exec push_psw w)
  unfolding push_psw
  of_push_psw w o = next (psw true) _ w (of_psw w o) (λ a p. of_push _ a p)

  of_push_ps_pc : (w : World) → Ready E w → Exactly E (Ready E) 4 4 tt (exec push_ps_pc w)
  unfolding push_ps_pc
  of_push_ps_pc w o = past _ w (next (push _) _ w (of_push _ w o) (λ a p. of_push _ a p))

  of_to_native : (w : World) → Ready E w → Exactly E (Ready E) 0 0 tt (exec (crossing to_native) w)
  unfolding crossed
  of_to_native w o =
      ended (ends_crossing to_native) (record { odd = set_odd w.state.file PSW (in_mode true (psw_of w.state)) o.odd (λ l. absurd (omega arith)); bare = o.bare })

  of_entered : (w : World) → Ready E w → Exactly E (Ready E) 0 0 tt (exec entered w)
  unfolding entered
  of_entered w o = next (flags entering (pure tt)) _ w (of_flags entering w o) (λ a p. of_to_native a p)

  of_save : (w : World) → Ready E w → Exactly E (Ready E) 6 6 tt (exec (save entered) w)
  unfolding save
  of_save w o = next push_psw _ w (of_push_psw w o) (λ a p. next entered _ a (of_entered a p) (λ b q. of_push_ps_pc b q))

  of_leaving : (ps pc : ℕ) (w : World) → Exactly E (λ v. Unit {0}) 0 0 tt (exec (jump_far ps pc) w)
  unfolding jump_far exec run run_by tally ◌>>=◌
  of_leaving ps pc w = exactly tt refl (λ _. refl)

  of_trap : (v : ℕ) (w : World) → Ready E w → Exactly E (λ x. Unit {0}) 8 6 tt (exec (trap v) w)
  unfolding trap vectored
  of_trap v w o =
      next (peek true 0 (4 * v)) _ w (of_vector _ w (even_first v) o) (λ a p. next (peek true 0 (4 * v + 2)) _ a (of_vector _ a (even_second v) p) (λ b q. next (save entered) _ b (of_save b q) (λ c r. of_leaving _ _ c)))

  of_halted : (b : Bool) (w : World) → Exactly E (λ v. Unit {0}) 0 0 tt (exec (halted b) w)
  of_halted b w = ended (ends_halted b) tt

  of_interrupting : (v : ℕ) (w : World) → Ready E w → Exactly E (λ x. Unit {0}) 8 6 tt (exec (interrupting v) w)
  unfolding interrupting
  of_interrupting v w o = next (trap v) _ w (of_trap v w o) (λ a p. of_halted false a)

  -- ---- the step

  of_stepping : (size n : ℕ) (w : World) → Ready E w → flag_of (psw_of w.state) BRK ≡ false → Exactly E (λ v. Unit {0}) 1020 512 tt (exec (stepping (prepare_at size) n) w)
  unfolding loads_segment moves_in pop_in stepping single_step
  of_stepping size n w o e =
      next (flag BRK) _ w (of_flag BRK _ w e o) (λ v q. next (execute (prepare_at size) n) _ v (of_execute size n v q) (λ x p. of_pure x tt))

  of_tracing : (size n : ℕ) (w : World) → Ready E w → flag_of (psw_of w.state) BRK ≡ true → size % 2 ≡ 0 → size ≤ 65535 → Exactly E (λ v. Unit {0}) 1028 518 tt (exec (stepping (prepare_at size) n) w)
  unfolding loads_segment moves_in pop_in stepping single_step
  of_tracing size n w o e h l =
      next (flag BRK) _ w (of_flag BRK _ w e o) (λ v q. next (execute (prepare_at size) n) _ v (of_execute size n v q) (λ x p. of_interrupting 1 x (p h l)))

-- ---- what it reports

taken : {E : Type 0} (w : World) (n d : ℕ) (e : Seen Unit) → Exactly E (λ x. Unit {0}) n d tt e
    → (x : World) × (m : Bus) × (report_of w e ≡ report 0 x m) × (m.cycles ≡ n) × (E → m.dropped ≡ d)
taken w n d (ends tt x m) (exactly q h k) = (x, m, refl, h, k)
taken {E = E} w n d (stops _) x'' = elim x'' [ ]

module _ {E : Type 0} (w : World) (i : Instr) (n k d : ℕ) (f : Finds w i n) (h : Exactly E (λ x. Unit {0}) k d tt (exec (stepping i n) (starting i w))) where
  turns : Makes w k
  unfolding step_report exec
  turns =
      let (x, m, e, c, z) = taken w k d (exec (stepping i n) (starting i w)) h in
      record { after = x; bus = m; is = rw (step_is w i n (f.fit, f.good) f.up f.there) e; count = c }

  spills : E → Loses w d
  unfolding step_report exec
  spills y =
      let (x, m, e, c, z) = taken w k d (exec (stepping i n) (starting i w)) h in
      record { after = x; bus = m; is = rw (step_is w i n (f.fit, f.good) f.up f.there) e; count = z y }

-- whatever the RAM, and without
some_ram : {w : World} → OddIn w → Ready ⊥ w
some_ram o = record { odd = o; bare = λ e. absurd e }

no_ram : {w : World} → OddIn w → Ready (w.ram ≡ []) w
no_ram o = record { odd = o; bare = λ e. e }

pub prepare_1020 : (w : World) (size n : ℕ) → Finds w (prepare_at size) n → OddIn w → flag_of (psw_of w.state) BRK ≡ false → Makes w 1020
unfolding starting
prepare_1020 w size n f o e = turns w (prepare_at size) n 1020 512 f (of_stepping size n (starting (prepare_at size) w) (some_ram o) e)

module _ (w : World) (size n : ℕ) (f : Finds w (prepare_at size) n) (o : OddIn w) (e : flag_of (psw_of w.state) BRK ≡ true) (h : size % 2 ≡ 0) (l : size ≤ 65535) where
  pub prepare_1028 : Makes w step_top
  unfolding starting
  prepare_1028 = turns w (prepare_at size) n 1028 518 f (of_tracing size n (starting (prepare_at size) w) (some_ram o) e h l)

  pub prepare_518 : w.ram ≡ [] → Loses w drop_top
  unfolding starting
  prepare_518 b = spills w (prepare_at size) n 1028 518 f (of_tracing size n (starting (prepare_at size) w) (no_ram o) e h l) b

-- ---- such machines: PSW F002h is without the single-step trap, F102h with it

odd_there : (psw : ℕ) → OddIn (preparing psw)
odd_there psw = record { whole = refl; sp = refl; bp = refl }

found : (psw : ℕ) → fixed_of psw ≡ true → native_of psw ≡ true → Finds (preparing psw) (prepare_at 0) 4
unfolding fits sound instruction_in scan instruction prefixed prefix_of after_prefix look_up word reading.◌>>=◌ byte_at
found psw e m = record { fit = refl; good = rw (e, m); up = refl; there = rw m }

pub reaches_1020 : Makes (preparing 0xf002) 1020
reaches_1020 = prepare_1020 (preparing 0xf002) 0 4 (found 0xf002 refl refl) (odd_there 0xf002) refl

pub reaches_1028 : Makes (preparing 0xf102) step_top
reaches_1028 = prepare_1028 (preparing 0xf102) 0 4 (found 0xf102 refl refl) (odd_there 0xf102) refl refl (lit≤ tt)

found_in_rom : Finds preparing_in_rom (prepare_at 0) 4
unfolding fits sound instruction_in scan instruction prefixed prefix_of after_prefix look_up word reading.◌>>=◌ byte_at
found_in_rom = record { fit = refl; good = refl; up = refl; there = refl }

pub reaches_518 : Loses preparing_in_rom drop_top
reaches_518 = prepare_518 preparing_in_rom 0 4 found_in_rom (record { whole = refl; sp = refl; bp = refl }) refl refl (lit≤ tt) refl
