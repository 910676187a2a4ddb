-- What the calls promise.
use Rattle.std.specs.Prelude.{ℕ, ◌≤◌, Bool, not, ◌&&◌, List, ◌≡◌}
use Rattle.sheet.specs.declared.Bus.{Bus}
use Rattle.sheet.specs.declared.State.{State}
use Rattle.sheet.specs.Width.{pick}
use Rattle.sheet.specs.Psw.{IE, flag_of}
use Rattle.sheet.specs.World.{World, world, psw_of}
use Rattle.sheet.specs.Contract.{Ends, report}
use Rattle.sheet.specs.Step.{checked, interrupting, interrupt_report}

-- the refusal that every call checks first, or 0
abbrev pub check_number : World → ℕ
check_number w = checked w (λ n. n) 0

-- what holds an interrupt off: a segment load, then the mask; or 0
abbrev pub held_number : Bool → State → ℕ
held_number maskable s = pick s.marks.loaded 13 (pick (maskable && not (flag_of (psw_of s) IE)) 7 0)

-- an interrupt that is accepted
pub record Accepts (vector : ℕ) (s : State) (ram rom : List ℕ) (number : ℕ) (s' : State) (ram' : List ℕ) (n : Bus) : Type 0 where
  pub zero : number ≡ 0
  pub most : n.cycles ≤ 8
  pub at : (tape log : List ℕ) → Ends Unit (interrupting vector) (world s ram rom tape log) tt (world s' ram' rom tape log) n

-- an interrupt call: what it reports is what the definition says, and it takes at most 8 bus cycles
pub record Interrupts (vector : ℕ) (maskable : Bool) (s : State) (ram rom tape log : List ℕ) (number : ℕ) (s' : State) (ram' : List ℕ) (n : Bus) : Type 0 where
  pub most : n.cycles ≤ 8
  pub is : interrupt_report vector maskable (world s ram rom tape log) ≡ report number (world s' ram' rom tape log) n
