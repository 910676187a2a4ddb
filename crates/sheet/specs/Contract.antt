-- What contracts say: what a caller sees of a tree, of the whole world or of the part that it lends.
use Rattle.std.specs.Prelude.{ℕ, ◌*◌, ◌≤◌, ◌≡◌, List}
use Rattle.sheet.specs.declared.State.{State}
use Rattle.sheet.specs.declared.Marks.{Marks}
use Rattle.sheet.specs.declared.Progress.{Progress}
use Rattle.sheet.specs.declared.Bus.{Bus}
use Rattle.sheet.specs.declared.Flagged.{Flagged}
use Rattle.sheet.specs.Psw.{keeps, column, settled}
use Rattle.sheet.specs.Reading.{Reading, known, unknown, scan}
use Rattle.sheet.specs.Act.{Act}
use Rattle.sheet.specs.World.{World, world, state_of, with_file}
use Rattle.sheet.specs.Arithmetic.{Result}
use Rattle.sheet.specs.Handler.{Outcome, refused, done, run, nothing, tally}

-- what a caller sees of an outcome: what the accesses come to, and not the accesses
pub data Seen (A : Type 0) : Type 0 where
  stops : ℕ → Seen A
  ends : A → World → Bus → Seen A

abbrev pub seen : {A : Type 0} → Outcome A → Seen A
seen (refused n t) = stops n
seen (done a w t) = ends a w (tally t)

unfoldable pub exec : {A : Type 0} → Act A → World → Seen A
exec p w = seen (run p w)

-- a tree, begun in w, ends: it hands a on, leaves the world v, and its accesses come to n
pub record Ends (A : Type 0) (p : Act A) (w : World) (a : A) (v : World) (n : Bus) : Type 0 where
  pub is : exec p w ≡ ends a v n

-- it refuses by the number n; its caller keeps the world that it had
pub record Stops (A : Type 0) (p : Act A) (w : World) (n : ℕ) : Type 0 where
  pub is : exec p w ≡ stops n

-- what a call reports: number, world and bus; a refusal leaves the world as it was
pub data Report : Type 0 where
  report : ℕ → World → Bus → Report

abbrev pub report_of : World → Seen Unit → Report
report_of w (stops n) = report n w nothing
report_of w (ends a v c) = report 0 v c

-- code that is lent the registers
pub record OnFile (A : Type 0) (p : Act A) (f : List ℕ) (a : A) (f' : List ℕ) : Type 0 where
  pub at : (s : State) (ram rom tape log : List ℕ)
      → Ends A p (world (with_file s f) ram rom tape log) a (world (with_file s f') ram rom tape log) nothing

-- code that is lent the registers and the memory, with the most bus cycles that it takes; at most two bytes a cycle are dropped
pub record OnMemory (A : Type 0) (p : Act A) (f ram rom : List ℕ) (a : A) (f' ram' : List ℕ) (n : Bus) (top : ℕ) : Type 0 where
  pub most : n.cycles ≤ top
  pub fair : n.dropped ≤ 2 * n.cycles
  pub at : (s : State) (tape log : List ℕ)
      → Ends A p (world (with_file s f) ram rom tape log) a (world (with_file s f') ram' rom tape log) n

-- code that is lent the marks as well
pub record OnMarks (A : Type 0) (p : Act A) (f ram rom : List ℕ) (m : Marks) (a : A) (f' ram' : List ℕ) (m' : Marks) (n : Bus) (top : ℕ) : Type 0 where
  pub most : n.cycles ≤ top
  pub fair : n.dropped ≤ 2 * n.cycles
  pub at : (q : Progress) (tape log : List ℕ)
      → Ends A p (world (state_of f m q) ram rom tape log) a (world (state_of f' m' q) ram' rom tape log) n

-- a result, and the PSW that its column makes of an old one
unfoldable pub flagged : Result → ℕ → Flagged
flagged r psw = record { value = r.value; psw = settled keeps (column r.column) psw }

-- a reading, begun after i bytes of a source, gives a and has then read j bytes
pub record Reads (A : Type 0) (p : Reading A) (src : ℕ → ℕ) (i : ℕ) (a : A) (j : ℕ) : Type 0 where
  pub is : scan p src i ≡ known a j

-- it refuses by the number n, at some byte
pub record Refuses (A : Type 0) (p : Reading A) (src : ℕ → ℕ) (i n : ℕ) : Type 0 where
  pub at : ℕ
  pub is : scan p src i ≡ unknown n at
