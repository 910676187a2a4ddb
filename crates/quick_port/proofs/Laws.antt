-- What each return of the code comes to, over plain values.
use Prim.Native.Nat.{ℕ, ◌≤◌}
use mathlib.Core.Path.{◌≡◌, refl, sym}
use mathlib.Core.Bool.{Bool, true, false, ◌&&◌, true≢false}
use mathlib.Core.List.{List}
use native.Mathlib.Decide.{ℕ_discrete}
use native.Mathlib.Omega.{arith}
use lib.Dec.{leb, lit≤}
use lib.ListN.{get_or}
use borrow.Author.Tests.{eq-eqb, ne_eqb, leb-true}
use Rattle.sheet.specs.declared.Bus.{Bus}
use Rattle.sheet.specs.declared.Io.TheVariants.{In, Out}
use Rattle.sheet.specs.declared.Port.{Port}
use Rattle.sheet.specs.declared.Progress.{Progress}
use Rattle.sheet.specs.declared.Repeat.TheVariants.{WhileZ}
use Rattle.sheet.specs.Registers.{AW, DW, file_of, read_reg}
use Rattle.sheet.specs.Act.{Act}
use Rattle.sheet.specs.Block.{block}
use Rattle.sheet.specs.Operand.{set_reg}
use Rattle.sheet.specs.Ports.{port_number, ports}
use Rattle.sheet.specs.Traps.{untrapped}
use Rattle.sheet.specs.Execute.{operation}
use Rattle.sheet.specs.Contract.{OnFile}
use Rattle.mach_tally.proofs.Bounds.{within_more}
use Rattle.mach_ports.specs.Accesses.{Gives, Takes, OnPorts}
use Rattle.do_port.proofs.Laws.{port_in_dw, port_numbered, input_done, input_stop, output_is}
use Rattle.do_stream.specs.declared.Streaming.{Streaming}
use Rattle.do_stream.specs.Streams.{primitive_of}
use Rattle.quick_place.specs.declared.kind.Kind.{Kind}
use Rattle.quick_place.specs.declared.kind.Kind.TheVariants as kinds
use Rattle.quick_place.specs.Kinds.{Kinded}
use Rattle.quick_place.specs.Packed.{kind_of, rm_of, op_of, seg_of, word_of, disp_of}
use Rattle.quick_pack.specs.Readings.{port_at, stream_at, at_port, readings_48, instr_of}
use Rattle.quick_port.specs.Trees.{port_trees, port_tree}

-- ---- the port's number

pub port_named : (f : List ℕ) (m d n k : ℕ) → k ≡ m → k ≡ 8 → n ≡ d → OnFile ℕ (port_number (port_at m d)) f n f
unfolding port_at
port_named f m d n k s e q = let z : m ≡ 8 = omega arith in port_numbered f _ n (rw (eq-eqb m 8 z, q))

pub port_held : (f : List ℕ) (m d k : ℕ) → k ≡ m → (k ≡ 8 → ⊥) → OnFile ℕ (port_number (port_at m d)) f (get_or f DW 0) f
unfolding port_at
port_held f m d k s e = port_in_dw f _ (rw (ne_eqb m 8 (λ z. e (omega arith))))

-- ---- IN and OUT

-- w is the reading's width, and u what the code has of it
module _ (w u : Bool) (port : Port) (f g ram rom tape log log' : List ℕ) (q q' : Progress) (number n v : ℕ) (c : Bus) (same : u ≡ w) (k : OnFile ℕ (port_number port) f n f) where
  pub in_done : Takes u n tape log q number v log' q' c → number ≡ 0 → OnFile Unit (set_reg u AW v) f tt g → OnPorts (ports (In w port)) f ram rom tape log q number g ram log' q' c 2
  in_done t z s = rw (← same) (input_done u port f g ram rom tape log log' q q' number n v c k t z s)

  pub in_stop : Takes u n tape log q number v log' q' c → (number ≡ 0 → ⊥) → OnPorts (ports (In w port)) f ram rom tape log q number f ram log' q' c 2
  in_stop t z = rw (← same) (input_stop u port f g ram rom tape log log' q q' number n v c k t z)

  pub out_is : v ≡ read_reg u (file_of f) AW → Gives u n v log q number log' q' c → OnPorts (ports (Out w port)) f ram rom tape log q number f ram log' q' c 2
  out_is e t = rw (← same) (output_is u port f g ram rom tape log log' q q' number n v c k e t)

-- ---- by the kind

both_true : (a b : Bool) → (a && b) ≡ true → (a ≡ true) × (b ≡ true)
both_true true true e = (refl, refl)
both_true true false e = absurd (true≢false (sym e))
both_true false b e = absurd (true≢false (sym e))

-- 48, 49 or 50
last_three : (r : ℕ) → at_port r ≡ true → (48 ≤ kind_of r) × (kind_of r ≤ 50)
last_three r e = let (a, b) = both_true (leb 48 (kind_of r)) (leb (kind_of r) 50) e in (leb-true 48 (kind_of r) a, leb-true (kind_of r) 50 b)

last_kind : (r : ℕ) → at_port r ≡ true → (kind_of r ≡ 48 → ⊥) → (kind_of r ≡ 49 → ⊥) → kind_of r ≡ 50
last_kind r e a b = let (l, h) = last_three r e in omega (arith, a, b)

stream_kind : (k : Kind) (n : ℕ) → Kinded k n → 48 ≤ n → n ≤ 50 → (k ≡ kinds.In → ⊥) → (k ≡ kinds.Out → ⊥) → n ≡ 50
stream_kind kinds.General n u l h a b = absurd (let m = u.last l in omega arith)
stream_kind kinds.AluRegReg n e l h a b = absurd (omega arith)
stream_kind kinds.AluRegMem n e l h a b = absurd (omega arith)
stream_kind kinds.AluMemReg n e l h a b = absurd (omega arith)
stream_kind kinds.MovRegReg n e l h a b = absurd (omega arith)
stream_kind kinds.MovRegMem n e l h a b = absurd (omega arith)
stream_kind kinds.MovMemReg n e l h a b = absurd (omega arith)
stream_kind kinds.MovRegImm n e l h a b = absurd (omega arith)
stream_kind kinds.PushReg n e l h a b = absurd (omega arith)
stream_kind kinds.PopReg n e l h a b = absurd (omega arith)
stream_kind kinds.BranchIf n e l h a b = absurd (omega arith)
stream_kind kinds.CallNear n e l h a b = absurd (omega arith)
stream_kind kinds.Ret n e l h a b = absurd (omega arith)
stream_kind kinds.AluRegImm n e l h a b = absurd (omega arith)
stream_kind kinds.AluMemImm n e l h a b = absurd (omega arith)
stream_kind kinds.MovMemImm n e l h a b = absurd (omega arith)
stream_kind kinds.UnaryReg n e l h a b = absurd (omega arith)
stream_kind kinds.UnaryMem n e l h a b = absurd (omega arith)
stream_kind kinds.BrNear n e l h a b = absurd (omega arith)
stream_kind kinds.BrShort n e l h a b = absurd (omega arith)
stream_kind kinds.Dbnz n e l h a b = absurd (omega arith)
stream_kind kinds.ShiftRegOne n e l h a b = absurd (omega arith)
stream_kind kinds.ShiftMemOne n e l h a b = absurd (omega arith)
stream_kind kinds.LoadAcc n e l h a b = absurd (omega arith)
stream_kind kinds.StoreAcc n e l h a b = absurd (omega arith)
stream_kind kinds.TestRegReg n e l h a b = absurd (omega arith)
stream_kind kinds.TestRegImm n e l h a b = absurd (omega arith)
stream_kind kinds.Block n e l h a b = absurd (omega arith)
stream_kind kinds.DecimalString n e l h a b = absurd (omega arith)
stream_kind kinds.Convert n e l h a b = absurd (omega arith)
stream_kind kinds.MultiplyReg n e l h a b = absurd (omega arith)
stream_kind kinds.Bcwz n e l h a b = absurd (omega arith)
stream_kind kinds.ShiftRegCounted n e l h a b = absurd (omega arith)
stream_kind kinds.ShiftMemCounted n e l h a b = absurd (omega arith)
stream_kind kinds.Ldea n e l h a b = absurd (omega arith)
stream_kind kinds.XchRegReg n e l h a b = absurd (omega arith)
stream_kind kinds.MovRegSegment n e l h a b = absurd (omega arith)
stream_kind kinds.BrFar n e l h a b = absurd (omega arith)
stream_kind kinds.Dbnzne n e l h a b = absurd (omega arith)
stream_kind kinds.Dbnze n e l h a b = absurd (omega arith)
stream_kind kinds.In n e l h a b = absurd (a refl)
stream_kind kinds.Out n e l h a b = absurd (b refl)
stream_kind kinds.Stream n e l h a b = e

module _ (r start : ℕ) (f g ram ram' rom tape log log' : List ℕ) (q q' : Progress) (number : ℕ) (c : Bus) where
  more : {t : Act Unit} → OnPorts t f ram rom tape log q number g ram' log' q' c 2 → OnPorts t f ram rom tape log q number g ram' log' q' c 4
  more o = record { most = within_more (lit≤ tt) o.most; done = o.done; stop = o.stop; same = o.same }

  pub at_48 : kind_of r ≡ 48 → OnPorts (ports (In (word_of r) (port_at (rm_of r) (disp_of r)))) f ram rom tape log q number g ram' log' q' c 2 → OnPorts (port_tree r start) f ram rom tape log q number g ram' log' q' c 4
  unfolding port_tree port_trees
  at_48 e d = rw e (more d)

  pub at_49 : kind_of r ≡ 49 → OnPorts (ports (Out (word_of r) (port_at (rm_of r) (disp_of r)))) f ram rom tape log q number g ram' log' q' c 2 → OnPorts (port_tree r start) f ram rom tape log q number g ram' log' q' c 4
  unfolding port_tree port_trees
  at_49 e d = rw e (more d)

  pub at_50 : (k : Kind) (o s : ℕ) (w : Bool) (p : Streaming) → Kinded k (kind_of r) → at_port r ≡ true → (k ≡ kinds.In → ⊥) → (k ≡ kinds.Out → ⊥) → o ≡ op_of r → primitive_of p ≡ stream_at o → w ≡ word_of r → s ≡ seg_of r
      → OnPorts (block (primitive_of p) w s WhileZ start) f ram rom tape log q number g ram' log' q' c 4 → OnPorts (port_tree r start) f ram rom tape log q number g ram' log' q' c 4
  unfolding port_tree port_trees
  at_50 k o s w p e z a b op named wide seg d =
      let (l, h) = last_three r z in
      rw (stream_kind k (kind_of r) e l h a b, ← op, ← named, ← wide, ← seg) d

-- and its instruction
pub port_does : (r start : ℕ) → at_port r ≡ true → operation (instr_of r) start ≡ untrapped (port_tree r start)
unfolding instr_of readings_48 port_tree port_trees operation
port_does r start e = go (ℕ_discrete (kind_of r) 48) (ℕ_discrete (kind_of r) 49)
  where
    go : Dec (kind_of r ≡ 48) → Dec (kind_of r ≡ 49) → operation (instr_of r) start ≡ untrapped (port_tree r start)
    go (yes a) d = rw a
    go (no a) (yes b) = rw b
    go (no a) (no b) = rw (last_kind r e a b)
