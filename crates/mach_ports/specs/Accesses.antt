-- What a port access comes to, whatever registers and memory are; and an instruction that makes one.
use Rattle.std.specs.Prelude.{ℕ, ◌+◌, ◌≤◌, ◌<◌, Bool, List, ◌≡◌, length}
use Rattle.sheet.specs.declared.Bus.{Bus}
use Rattle.sheet.specs.declared.Marks.{Marks}
use Rattle.sheet.specs.declared.Progress.{Progress}
use Rattle.sheet.specs.Log.{write_log}
use Rattle.sheet.specs.World.{world, state_of}
use Rattle.sheet.specs.Act.{Act, inp, out}
use Rattle.sheet.specs.Handler.{nothing}
use Rattle.sheet.specs.Contract.{Ends, Stops}
use Rattle.mach_tally.specs.Bounds.{Within}

-- a record of the bytes b went into the log, or was refused with 6
pub record Records (b : List ℕ) (next : ℕ) (log : List ℕ) (q : Progress) (number : ℕ) (log' : List ℕ) (q' : Progress) : Type 0 where
  pub done : number ≡ 0 → (q.log + length b ≤ length log) × (log' ≡ write_log log q.log b) × (q' ≡ record { tape = next; log = q.log + length b; count = 0 })
  pub stop : (number ≡ 0 → ⊥) → (number ≡ 6) × (length log < q.log + length b) × (log' ≡ log) × (q' ≡ q)

pub record Gives (w : Bool) (port v : ℕ) (log : List ℕ) (q : Progress) (number : ℕ) (log' : List ℕ) (q' : Progress) (n : Bus) : Type 0 where
  pub most : Within n 2
  pub done : number ≡ 0 → (f : List ℕ) (h : Marks) (ram rom tape : List ℕ) → Ends Unit (out w port v) (world (state_of f h q) ram rom tape log) tt (world (state_of f h q') ram rom tape log') n
  pub stop : (number ≡ 0 → ⊥) → (f : List ℕ) (h : Marks) (ram rom tape : List ℕ) → Stops Unit (out w port v) (world (state_of f h q) ram rom tape log) number
  pub same : (number ≡ 0 → ⊥) → (log' ≡ log) × (q' ≡ q) × (n ≡ nothing)

pub record Takes (w : Bool) (port : ℕ) (tape log : List ℕ) (q : Progress) (number v : ℕ) (log' : List ℕ) (q' : Progress) (n : Bus) : Type 0 where
  pub most : Within n 2
  pub done : number ≡ 0 → (f : List ℕ) (h : Marks) (ram rom : List ℕ) → Ends ℕ (inp w port) (world (state_of f h q) ram rom tape log) v (world (state_of f h q') ram rom tape log') n
  pub stop : (number ≡ 0 → ⊥) → (f : List ℕ) (h : Marks) (ram rom : List ℕ) → Stops ℕ (inp w port) (world (state_of f h q) ram rom tape log) number
  pub same : (number ≡ 0 → ⊥) → (log' ≡ log) × (q' ≡ q) × (n ≡ nothing)

-- an instruction that is lent everything but the halted mark, with the most bus cycles that it takes
pub record OnPorts (p : Act Unit) (f ram rom tape log : List ℕ) (q : Progress) (number : ℕ) (f' ram' log' : List ℕ) (q' : Progress) (n : Bus) (top : ℕ) : Type 0 where
  pub most : Within n top
  pub done : number ≡ 0 → (h : Marks) → Ends Unit p (world (state_of f h q) ram rom tape log) tt (world (state_of f' h q') ram' rom tape log') n
  pub stop : (number ≡ 0 → ⊥) → (h : Marks) → Stops Unit p (world (state_of f h q) ram rom tape log) number
  pub same : (number ≡ 0 → ⊥) → (f' ≡ f) × (ram' ≡ ram) × (log' ≡ log) × (n ≡ nothing)
