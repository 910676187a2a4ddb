-- Demand 3 is not empty: a repeated move of three bytes, F3 2E A4, with an interrupt after its first step whose handler sets
-- CY and returns. The whole interleaving is computed.
use Prim.Native.Nat.{ℕ, zero, suc, ◌≤◌, ◌<◌}
use mathlib.Core.Path.{◌≡◌, refl, ap, subst, ◌∙◌}
use mathlib.Core.Bool.{true, false}
use mathlib.Core.List.{List, [], ◌∷◌, ◌++◌}
use native.Mathlib.Omega.{arith}
use lib.Dec.{lit≤, lit<}
use lib.ListN.{replicate, get_or}
use Rattle.sheet.specs.declared.Primitive.TheVariants.{Movbk}
use Rattle.sheet.specs.declared.Repeat.TheVariants.{WhileZ}
use Rattle.sheet.specs.declared.Instr.TheVariants.{Blocks}
use Rattle.sheet.specs.Width.{wrap_of}
use Rattle.sheet.specs.Psw.{settled, in_mode}
use Rattle.sheet.specs.Registers.{CW, PC, in_ps}
use Rattle.sheet.specs.Memory.{byte_at, read_mem, write_mem, bus_cycles, lost, lost_bytes}
use Rattle.sheet.specs.Act as act
use Rattle.sheet.specs.World.{World, crossed}
use Rattle.sheet.specs.Handler.{Event, Outcome, done, run_by, run, happened, tally}
use Rattle.sheet.specs.Traps.{push, pop, push_psw, push_ps_pc, jump_far, save, vectored, entered, trap, untrapped}
use Rattle.sheet.specs.Mode.{take_back, pop_return, reti, modes}
use Rattle.sheet.specs.Control.{control}
use Rattle.sheet.specs.Branch.{count_down}
use Rattle.sheet.specs.Block.{stepped_of, step_index, source_element, target_element, set_target, primitive, goes_on_after, after_element, element, repeated, block}
use Rattle.sheet.specs.Execute.{operation, execute}
use Rattle.sheet.specs.Reading as reading
use Rattle.sheet.specs.Reading.{known, scan}
use Rattle.sheet.specs.Encoding.{prefix_of, look_up}
use Rattle.sheet.specs.FirstByte.{after_prefix, prefixed, instruction}
use Rattle.sheet.specs.Step.{fits, sound, code_at, interrupting, single_step, loads_segment, starting, stepping, decoded, awake, step_by, step, interrupt_by, interrupt, step_report, interrupt_report, instruction_in}
use Rattle.theorems.specs.StandIns.{machine}
use Rattle.theorems.specs.Repeat.{Block, single, singles, first_or, elements, reg, walk, low, Kept, own_byte, source_byte, target_byte, NeverOnItself, stepped, no_call, and_then_lem, Restores, Engine, Gap, quiet, service, begun, next_own, Taken, Demand3}
use Rattle.theorems.specs.RepeatEngines.{accesses, accepts, engine, definition}
use Rattle.theorems.specs.RepeatCode.{StepCall, step_call, InterruptCall, interrupt_call, code}
use Rattle.theorems.proofs.Repeat.{definition_demand3}
use Rattle.theorems.proofs.RepeatCode.{code_demand3}
use Rattle.theorems.proofs.RepeatFile.{placed_reads}
use Rattle.theorems.proofs.RepeatSingles.{singles_keep}

abbrev pub move3 : Block
move3 = record { kind = Movbk; word = false; seg = in_ps; repeat = WhileZ; size = 3 }

-- AW CW DW BW SP BP IX IY DS1 PS SS DS0 PC PSW
abbrev pub words : (cw sp ix iy pc psw : ℕ) → List ℕ
words cw sp ix iy pc psw = 0 ∷ cw ∷ 0 ∷ 0 ∷ sp ∷ 0 ∷ ix ∷ iy ∷ 0 ∷ 0 ∷ 0 ∷ 0 ∷ pc ∷ psw ∷ []

-- the vector 8 at 32, the stack from 58 to 63, the instruction at 64, the handler at 72, the blocks at 80 and 84
abbrev pub memory : (stack target : List ℕ) → List ℕ
memory stack target =
    replicate 32 0
    ++ (72 ∷ 0 ∷ 0 ∷ 0 ∷ replicate 22 0)
    ++ stack
    ++ (0xf3 ∷ 0x2e ∷ 0xa4 ∷ 0 ∷ 0 ∷ 0 ∷ 0 ∷ 0 ∷ 0xf9 ∷ 0xcf ∷ 0 ∷ 0 ∷ 0 ∷ 0 ∷ 0 ∷ 0 ∷ 1 ∷ 2 ∷ 3 ∷ 0 ∷ [])
    ++ target

abbrev pub start : World
start = machine (words 3 64 80 84 64 0xf202) false 0 (memory (replicate 6 0) (0 ∷ 0 ∷ 0 ∷ []))

-- on the way: after the first step, at the handler, after its first instruction, back from it
abbrev pub after_one : World
after_one = machine (words 2 64 81 85 64 0xf202) false 1 (memory (replicate 6 0) (1 ∷ 0 ∷ 0 ∷ []))

abbrev pushed : List ℕ
pushed = 64 ∷ 0 ∷ 0 ∷ 0 ∷ 0x02 ∷ 0xf2 ∷ []

abbrev pub in_handler : World
in_handler = machine (words 2 58 81 85 72 0xf002) false 1 (memory pushed (1 ∷ 0 ∷ 0 ∷ []))

abbrev pub with_carry : World
with_carry = machine (words 2 58 81 85 73 0xf003) false 2 (memory pushed (1 ∷ 0 ∷ 0 ∷ []))

-- it did change memory: what was pushed stays below the stack pointer
abbrev pub back : World
back = machine (words 2 64 81 85 64 0xf202) false 3 (memory pushed (1 ∷ 0 ∷ 0 ∷ []))

-- whoever unfolds this unfolds what these steps need of the definition
unfoldable pub opened : ℕ
unfolding wrap_of settled byte_at read_mem write_mem act.◌>>=◌ run_by run push pop push_psw push_ps_pc jump_far save vectored entered trap crossed in_mode take_back pop_return reti modes control count_down stepped_of step_index source_element target_element set_target primitive goes_on_after after_element element repeated block untrapped operation execute reading.◌>>=◌ scan prefix_of look_up after_prefix prefixed instruction instruction_in fits sound interrupting single_step loads_segment starting stepping decoded awake step_by step interrupt_by interrupt
opened = 0

pub first : step start ≡ done tt after_one (happened (step start))
unfolding opened
first = refl

pub call : interrupt 8 true after_one ≡ done tt in_handler (happened (interrupt 8 true after_one))
unfolding opened
call = refl

pub in_service : step in_handler ≡ done tt with_carry (happened (step in_handler))
unfolding opened
in_service = refl

pub returns : step with_carry ≡ done tt back (happened (step with_carry))
unfolding opened
returns = refl

pub three_elements : elements move3 start ≡ 3
unfolding opened elements first_or singles single
three_elements = refl

-- what a service must put back
abbrev pub Mine : ℕ → Type 0
Mine = Kept move3 start 3

pub mine : (a : ℕ) → Kept move3 start (elements move3 start) a → Mine a
mine a k = rw three_elements at k

same_bytes : (a : ℕ) → Mine a → byte_at back.ram [] a ≡ byte_at after_one.ram [] a
unfolding byte_at walk stepped_of
same_bytes a (own_byte zero h e) = rw e
same_bytes a (own_byte (suc zero) h e) = rw e
same_bytes a (own_byte (suc (suc zero)) h e) = rw e
same_bytes a (own_byte (suc (suc (suc j))) h e) = absurd (omega arith)
same_bytes a (source_byte zero h t (low e)) = rw e
same_bytes a (source_byte (suc zero) h t (low e)) = rw e
same_bytes a (source_byte (suc (suc zero)) h t (low e)) = rw e
same_bytes a (source_byte (suc (suc (suc j))) h t (low e)) = absurd (omega arith)
same_bytes a (target_byte zero h t (low e)) = rw e
same_bytes a (target_byte (suc zero) h t (low e)) = rw e
same_bytes a (target_byte (suc (suc zero)) h t (low e)) = rw e
same_bytes a (target_byte (suc (suc (suc j))) h t (low e)) = absurd (omega arith)

pub restores : Restores Mine after_one back
restores = record { registers = refl; kept = same_bytes }

-- the targets, 84 to 86, are none of the instruction's bytes, 64 to 66
pub own_low : (a c : ℕ) → c < 3 → a ≡ code_at 0 64 c → a < 67
own_low a c h e = omega arith

pub apart : NeverOnItself move3 start
unfolding walk stepped_of
apart zero c a h t (low e) r l o = omega (arith, own_low a c l o)
apart (suc zero) c a h t (low e) r l o = omega (arith, own_low a c l o)
apart (suc (suc zero)) c a h t (low e) r l o = omega (arith, own_low a c l o)
apart (suc (suc (suc j))) c a h t (low e) r l o = omega arith

pub reads_move3 : instruction_in start ≡ known (Blocks Movbk false in_ps WhileZ) 3
unfolding opened
reads_move3 = refl

-- the calls of an engine that go as computed
pub record Goes (E : Engine) : Type 0 where
  pub shown_first : E.Shown
  pub shown_call : E.Shown
  pub shown_carry : E.Shown
  pub shown_return : E.Shown
  pub stepping_first : E.Step start 0 after_one shown_first
  pub calling : E.Interrupt 8 true after_one 0 in_handler shown_call
  pub carrying : E.Step in_handler 0 with_carry shown_carry
  pub returning : E.Step with_carry 0 back shown_return

-- the example is taken by every engine that accepts it
pub taken : (E : Engine) (v : World) (o : E.Shown) → E.Step start 0 v o → Taken E move3 start
taken E v o s = record {
  read = reads_move3;
  blocks = refl;
  repeated = refl;
  accepted = (v, o, s);
  untraced = refl;
  clean = apart;
  whole = refl;
  sixteen = lit< tt;
}

-- its service is one that restores
pub served : (E : Engine) → Goes E → Gap E Mine after_one back
served E g =
    service
    (record {
      vector = 8;
      maskable = true;
      entry = in_handler;
      shown = g.shown_call;
      in_range = lit< tt;
      taken = g.calling;
      served = and_then_lem (and_then_lem no_call (stepped g.shown_carry g.carrying)) (stepped g.shown_return g.returning);
      up_again = refl;
    })
    restores

-- whatever the second own step answers, it is accepted; PC is on the first prefix again, CW is 1, and two bytes have moved
abbrev pub Second : Engine → Type 0
Second E = (n : ℕ) (v : World) (o : E.Shown) → E.Step back n v o → (n ≡ 0) × (reg v PC ≡ 64) × (reg v CW ≡ 1) × (byte_at v.ram v.rom 85 ≡ 2)

moved_byte : byte_at (singles move3 start 2).ram (singles move3 start 2).rom 85 ≡ 2
unfolding opened singles single
moved_byte = refl

-- so says demand 3
pub second : (E : Engine) → Goes E → Demand3 E → Second E
unfolding walk stepped_of
second E g d n v o s =
    let k = d move3 start (taken E _ _ g.stepping_first) Mine mine in
    let one = next_own begun (quiet refl) g.stepping_first in
    let z = k.goes_on 1 n _ o after_one back v (rw three_elements (lit≤ tt)) one (served E g) s in
    let a = k.on_the_way 2 _ v (rw three_elements (lit≤ tt)) (next_own one (served E g) (subst (λ n. E.Step back n v o) z s)) in
    let r = placed_reads 1 64 (singles move3 start 2).state.file (singles_keep move3 start refl refl 2).long in (
      z,
      ap (λ f. get_or f PC 0) a.registers ∙ r.pc,
      ap (λ f. get_or f CW 0) a.registers ∙ r.cw,
      a.kept 85 (target_byte 1 (lit< tt) tt (low refl)) ∙ moved_byte,
    )

-- ---- in the definition

-- steps that do on these three machines what the definition does
pub goes_by : (steps : World → Outcome Unit) → steps start ≡ step start → steps in_handler ≡ step in_handler → steps with_carry ≡ step with_carry → Goes (engine steps interrupt)
goes_by steps a b c = record {
  shown_first = accesses (happened (step start));
  shown_call = accesses (happened (interrupt 8 true after_one));
  shown_carry = accesses (happened (step in_handler));
  shown_return = accesses (happened (step with_carry));
  stepping_first = accepts (a ∙ first);
  calling = accepts call;
  carrying = accepts (b ∙ in_service);
  returning = accepts (c ∙ returns);
}

pub goes : Goes definition
goes = goes_by step refl refl refl

pub second_step : Second definition
second_step = second definition goes definition_demand3

-- ---- in code

in_code : (w v : World) (t : List Event) → step w ≡ done tt v t → v.rom ≡ w.rom → v.tape ≡ w.tape → (tally t).cycles ≤ 1028 → StepCall w 0 v (tally t)
unfolding step_report
in_code w v t e r p m =
    subst (λ (x : World). StepCall w 0 x (tally t)) (rw (← r, ← p)) (step_call {s = v.state} {ram = v.ram} {log = v.log} (record { most = m; is = rw (e, ← r, ← p) }))

called_in_code : InterruptCall 8 true after_one 0 in_handler (tally (happened (interrupt 8 true after_one)))
unfolding opened interrupt_report tally bus_cycles lost lost_bytes
called_in_code = interrupt_call (record { most = lit≤ tt; is = refl })

few : ((tally (happened (step start))).cycles ≤ 1028) × ((tally (happened (step in_handler))).cycles ≤ 1028) × ((tally (happened (step with_carry))).cycles ≤ 1028)
unfolding opened tally bus_cycles lost lost_bytes
few = (lit≤ tt, lit≤ tt, lit≤ tt)

pub code_goes : Goes code
code_goes = record {
  shown_first = tally (happened (step start));
  shown_call = tally (happened (interrupt 8 true after_one));
  shown_carry = tally (happened (step in_handler));
  shown_return = tally (happened (step with_carry));
  stepping_first = in_code start after_one _ first refl refl few.0;
  calling = called_in_code;
  carrying = in_code in_handler with_carry _ in_service refl refl few.1;
  returning = in_code with_carry back _ returns refl refl few.2;
}

pub second_call : Second code
second_call = second code code_goes code_demand3
