-- The borrow as a step: SUB4S at PS:PC on two packed bytes leaves their decimal difference modulo 100, and CY says that it crossed a century.
use Prim.Native.Nat.{ℕ, zero, suc, ◌+◌, ◌-◌, ◌/◌, ◌%◌, ◌≤◌, ◌<◌}
use mathlib.Core.Path.{◌≡◌, refl, sym, ap, subst, ◌∙◌}
use mathlib.Core.Bool.{Bool, true, false, not, ◌&&◌}
use mathlib.Core.List.{List, [], ◌∷◌}
use Rattle.std.specs.Prelude.{None}
use mathlib.Core.Logic.{◌≢◌}
use native.Mathlib.Nat.{add-zero}
use native.Mathlib.Omega.{arith}
use lib.ListN.{length, length-set}
use lib.Seq.{get_or-set_same}
use lib.Dec.{eqb, ltb, lit≤, lit<}
use Rattle.sheet.specs.declared.Bus.{Bus}
use Rattle.sheet.specs.declared.State.{State}
use Rattle.sheet.specs.declared.Digits.{Digits}
use Rattle.sheet.specs.declared.Chain.{Chain}
use Rattle.sheet.specs.declared.Instr.{Instr}
use Rattle.sheet.specs.declared.Compute.TheVariants.{Decimals}
use Rattle.sheet.specs.declared.Instr.TheVariants.{Computes}
use Rattle.sheet.specs.declared.Decimal.TheVariants.{Sub4s}
use Rattle.sheet.specs.Width.{add16}
use Rattle.sheet.specs.Psw.{CY, BRK, unknown, becomes, columns, column, keeps, flag_of, native_of, settled}
use Rattle.sheet.specs.Registers.{IX, IY, DS0, DS1, PC, PSW, CL, in_ds0, read_reg}
use Rattle.sheet.specs.Memory.{read_mem, write_mem}
use Rattle.sheet.specs.World.{World, world, psw_of, with_psw}
use Rattle.sheet.specs.Act.{Act, affect, loop, ◌>>=◌}
use Rattle.sheet.specs.Handler.{Event, done, nothing, run, run_by, tally}
use Rattle.sheet.specs.Contract.{ends, seen, exec, Ends, report}
use Rattle.sheet.specs.Reading as reading
use Rattle.sheet.specs.Reading.{known, scan}
use Rattle.sheet.specs.Encoding.{unprefixed, prefix_of, look_up}
use Rattle.sheet.specs.SecondByte.{second_bytes}
use Rattle.sheet.specs.FirstByte.{first_bytes, instruction}
use Rattle.sheet.specs.Operand.{reg_value}
use Rattle.sheet.specs.declared.Way.TheVariants.{Subtraction}
use Rattle.sheet.specs.declared.Storing.TheVariants.{Stored}
use Rattle.sheet.specs.Decimal.{digits, link, chained, string, decimal}
use Rattle.sheet.specs.Traps.{untrapped}
use Rattle.sheet.specs.Execute.{computing, operation, execute}
use Rattle.sheet.specs.Step.{fits, sound, source, loads_segment, single_step, starting, stepping, step, step_report, instruction_in}
use Rattle.sheet.proofs.PswLaws.{flag_settled}
use Rattle.sheet.proofs.Rules.{seq_last, ends_pure, seq_registers, seq_set, seq_flag}
use Rattle.sheet.proofs.BlockLaws.{no_prefix, Begins, scan_prefixes, native_read}
use Rattle.calc_decimal.proofs.DecimalLaws.{packed, decimal_borrow}
use Rattle.step_answer.specs.Steps.{Steps}
use Rattle.step_answer.proofs.RunLaws.{as_done}
use Rattle.theorems.specs.Repeat.{reg}
use Rattle.theorems.proofs.BoundsStep.{step_is}
use Rattle.theorems.proofs.PortOnce.{begun, other_register}

-- 0F 22 at PS:PC of a machine that is to make a step, in native mode: CL 1 or 2, m packed at DS1:IY and n packed at DS0:IX
pub record Subtracting (w : World) (m n : ℕ) : Type 0 where
  pub fit : fits w ≡ true
  pub good : sound w ≡ true
  pub up : w.state.marks.halted ≡ false
  pub native : native_of (psw_of w.state) ≡ true
  pub untraced : flag_of (psw_of w.state) BRK ≡ false
  pub whole : length w.state.file ≡ 14
  pub first : source w 0 ≡ 0x0f
  pub second : source w 1 ≡ 0x22
  pub some : 1 ≤ read_reg false (reg w) CL
  pub few : read_reg false (reg w) CL ≤ 2
  pub ix : reg w IX ≤ 65535
  pub iy : reg w IY ≤ 65535
  pub from : read_mem false w.ram w.rom (reg w DS1) (reg w IY) ≡ packed m
  pub less : read_mem false w.ram w.rom (reg w DS0) (reg w IX) ≡ packed n

-- ---- the bytes

subtraction : Instr
subtraction = Computes (Decimals (Sub4s in_ds0))

begins_so : (src : ℕ → ℕ) → src 0 ≡ 0x0f → Begins (0x0f ∷ []) src 0
begins_so src e zero l = e
begins_so src e (suc j) l = absurd (omega arith)

second_read : (src : ℕ → ℕ) → src 1 ≡ 0x22 → scan (look_up (first_bytes unprefixed) 0x0f) src 1 ≡ known subtraction 2
unfolding look_up scan reading.◌>>=◌ subtraction
second_read src e = subst (λ (b : ℕ). scan (look_up (second_bytes unprefixed) b) src 2 ≡ known (Computes (Decimals (Sub4s in_ds0))) 2) (sym e) refl

no_prefix_byte : prefix_of 0x0f ≡ None
unfolding prefix_of
no_prefix_byte = refl

sub4s_read : (w : World) → native_of (psw_of w.state) ≡ true → source w 0 ≡ 0x0f → source w 1 ≡ 0x22 → instruction_in w ≡ known subtraction 2
unfolding instruction
sub4s_read w m e f = native_read w m ∙ scan_prefixes 0x0f 3 (source w) 0 no_prefix (lit≤ tt) no_prefix_byte (begins_so (source w) e) ∙ second_read (source w) f

-- ---- the tree

closing : Chain → Act Unit
closing c = affect (columns unknown (becomes c.cy) unknown unknown unknown (becomes c.zero))

-- one byte of each string
digits_in : World → Digits
digits_in u = digits Subtraction (read_mem false u.ram u.rom (reg u DS1) (add16 (reg u IY) 0)) (read_mem false u.ram u.rom (reg u DS0) (add16 (reg u IX) 0)) false

psw_by : World → Digits → ℕ
psw_by u d = settled keeps (column (columns unknown (becomes d.cy) unknown unknown unknown (becomes (true && eqb d.value 0)))) (psw_of u.state)

left_by : World → Digits → World
left_by u d = world (with_psw u.state (psw_by u d)) (write_mem false u.ram (reg u DS1) (add16 (reg u IY) 0) d.value) u.rom u.tape u.log

chained_one : (u : World) → (b : Bus) × (exec (chained Subtraction Stored in_ds0 1 >>= closing) u ≡ ends tt (left_by u (digits_in u)) b)
unfolding chained loop link closing digits_in psw_by left_by exec run run_by ◌>>=◌
chained_one u = (_, refl)

string_is : (u : World) → exec (string Subtraction Stored in_ds0) u ≡ exec (chained Subtraction Stored in_ds0 ((read_reg false (reg u) CL + 1) / 2) >>= closing) u
unfolding string reg_value closing exec run run_by ◌>>=◌
string_is u = refl

string_ends : (u : World) → (read_reg false (reg u) CL + 1) / 2 ≡ 1 → (b : Bus) × Ends Unit (string Subtraction Stored in_ds0) u tt (left_by u (digits_in u)) b
string_ends u e =
    let (b, q) = chained_one u in
    (b, record { is = string_is u ∙ subst (λ (k : ℕ). exec (chained Subtraction Stored in_ds0 k >>= closing) u ≡ ends tt (left_by u (digits_in u)) b) (sym e) q })

module _ (w x : World) (b : Bus) (h : Ends Unit (string Subtraction Stored in_ds0) (begun w (add16 (reg w PC) 2)) tt x b) where
  execute_ends : Ends Bool (execute subtraction 2) w false x b
  unfolding execute operation untrapped computing decimal subtraction
  execute_ends = seq_registers _ (seq_set PC (add16 (reg w PC) 2) _ (seq_last _ h ends_pure))

  single_ends : (t : Bool) → t ≡ false → Ends Unit (single_step ((t && not false) && not false)) x tt x nothing
  unfolding single_step
  single_ends t e = rw e ends_pure

  stepping_ends : flag_of (psw_of w.state) BRK ≡ false → Ends Unit (stepping subtraction 2) w tt x b
  unfolding loads_segment subtraction stepping
  stepping_ends e = seq_flag BRK _ (seq_last _ execute_ends (single_ends (flag_of (psw_of w.state) BRK) e))

write_same : {ram ram' : List ℕ} {g g' o o' x x' : ℕ} → ram ≡ ram' → g ≡ g' → o ≡ o' → x ≡ x' → write_mem false ram g o x ≡ write_mem false ram' g' o' x'
write_same a b c d = rw (a, b, c, d)

starting_untraced : (w : World) → flag_of (psw_of w.state) BRK ≡ false → flag_of (psw_of (starting subtraction w).state) BRK ≡ false
unfolding starting
starting_untraced w e = e

-- ---- the step

module _ (w : World) (m n : ℕ) (hm : m < 100) (hn : n < 100) (s : Subtracting w m n) where
  -- as the tree finds it
  u : World
  u = begun (starting subtraction w) (add16 (reg w PC) 2)

  u_ram : u.ram ≡ w.ram
  unfolding u starting
  u_ram = refl

  u_rom : u.rom ≡ w.rom
  unfolding u starting
  u_rom = refl

  u_long : length u.state.file ≡ 14
  unfolding u starting
  u_long = length-set w.state.file PC _ ∙ s.whole

  u_reg : (i : ℕ) → i ≢ PC → reg u i ≡ reg w i
  unfolding u starting
  u_reg i h = other_register w.state.file (add16 (reg w PC) 2) i h

  u_cl : read_reg false (reg u) CL ≡ read_reg false (reg w) CL
  unfolding read_reg
  u_cl = rw (u_reg 1 (λ e. omega arith))

  one_byte : (read_reg false (reg u) CL + 1) / 2 ≡ 1
  one_byte = rw u_cl (omega (arith, s.some, s.few))

  same_offset : (i : ℕ) → i ≤ 65535 → add16 i 0 ≡ i
  same_offset i h = omega arith

  u_target : (reg u DS1 ≡ reg w DS1) × (add16 (reg u IY) 0 ≡ reg w IY)
  u_target = (u_reg DS1 (λ e. omega arith), rw (u_reg IY (λ e. omega arith)) (same_offset (reg w IY) s.iy))

  u_source : (reg u DS0 ≡ reg w DS0) × (add16 (reg u IX) 0 ≡ reg w IX)
  u_source = (u_reg DS0 (λ e. omega arith), rw (u_reg IX (λ e. omega arith)) (same_offset (reg w IX) s.ix))

  -- the byte, and CY
  u_digits : ((digits_in u).value ≡ packed ((100 + m - n) % 100)) × ((digits_in u).cy ≡ ltb m n)
  unfolding digits_in
  u_digits =
      let d = decimal_borrow m n false hm hn in
      rw (u_ram, u_rom, u_target.0, u_target.1, u_source.0, u_source.1, s.from, s.less, d, add-zero n) (refl, refl)

  ram_left : (left_by u (digits_in u)).ram ≡ write_mem false w.ram (reg w DS1) (reg w IY) (packed ((100 + m - n) % 100))
  unfolding left_by
  ram_left = write_same u_ram u_target.0 u_target.1 u_digits.0

  cy_left : flag_of (psw_of (left_by u (digits_in u)).state) CY ≡ ltb m n
  unfolding left_by psw_by
  cy_left = rw (get_or-set_same u.state.file PSW (psw_by u (digits_in u)) 0 (rw u_long (lit< tt)), flag_settled keeps (column (columns unknown (becomes (digits_in u).cy) unknown unknown unknown (becomes (true && eqb (digits_in u).value 0)))) (psw_of u.state) CY) u_digits.1

  -- SUB4S, 0F 22: the difference modulo 100 at DS1:IY, and CY where m < n
  pub sub4s_step : (v : World) × (t : List Event) × (step w ≡ done tt v t)
      × (v.ram ≡ write_mem false w.ram (reg w DS1) (reg w IY) (packed ((100 + m - n) % 100))) × (flag_of (psw_of v.state) CY ≡ ltb m n)
  unfolding exec u starting
  sub4s_step =
      let (b, e) = string_ends u one_byte in
      let t = stepping_ends (starting subtraction w) (left_by u (digits_in u)) b e (starting_untraced w s.untraced) in
      let d = as_done (step w) (left_by u (digits_in u)) b (ap seen (step_is w subtraction 2 (s.fit, s.good) s.up (sub4s_read w s.native s.first s.second)) ∙ t.is) in
      (left_by u (digits_in u), d.events, d.is, ram_left, cy_left)

  -- as code answers it
  pub sub4s_call : {number : ℕ} {s' : State} {ram' log' : List ℕ} {b : Bus} → Steps w.state w.ram w.rom w.tape w.log number s' ram' log' b
      → (number ≡ 0) × (ram' ≡ write_mem false w.ram (reg w DS1) (reg w IY) (packed ((100 + m - n) % 100))) × (flag_of (psw_of s') CY ≡ ltb m n)
  unfolding step_report
  sub4s_call {number} {s'} {ram'} {log'} {b} c =
      let (v, t, e, r, f) = sub4s_step in
      let z : report 0 v (tally t) ≡ report number (world s' ram' w.rom w.tape log') b = rw e at c.is in
      let x : v ≡ world s' ram' w.rom w.tape log' = cc in
      let y : 0 ≡ number = cc in
      (sym y, sym (ap (λ (q : World). q.ram) x) ∙ r, rw (← ap (λ (q : World). q.state) x) f)
