-- The one handler of acts: what they do to a world, what happened on the way, and what is counted over that.
-- 01:16-17, 42-43, 54, 66, 70; 02 b, m
use Rattle.std.specs.Prelude.{ℕ, zero, suc, ◌+◌, ◌*◌, Bool, true, false, List, [], ◌∷◌, length, get_or, leb}
use Rattle.sheet.specs.declared.Bus.{Bus}
use Rattle.sheet.specs.Width.{pick, bytes_of, wrap_of}
use Rattle.sheet.specs.Psw.{Flag, Effect, Choice, keeps, flag_of, settled}
use Rattle.sheet.specs.Registers.{file_of, written}
use Rattle.sheet.specs.Memory.{read_mem, write_mem, bus_cycles, lost_bytes}
use Rattle.sheet.specs.Log.{rule, key_of, record_bytes, write_log}
use Rattle.sheet.specs.World.{World, world, with_state, with_ram, psw_of, with_file, with_psw, with_halted, crossed, recorded}
use Rattle.sheet.specs.Act.{Act, pure, refuse, get, put, ask, copy, flags, load, store, input, output, halt, cross}

-- ---- ports

-- what a port access comes to: a refusal, or a value and the world after it
pub data Access : Type 0 where
  short : ℕ → Access
  through : ℕ → World → Access

-- the record b of the value v, with m tape bytes taken: 6 where the log has less room
unfoldable pub recording : World → ℕ → ℕ → List ℕ → Access
recording w v m b =
    pick (leb (w.state.progress.log + length b) (length w.log))
    (through v (world (recorded w.state m (length b)) w.ram w.rom w.tape (write_log w.log w.state.progress.log b)))
    (short 6)

-- the next number on the tape, low byte first
unfoldable pub taped : Bool → List ℕ → ℕ → ℕ
taped b tape i = pick b (get_or tape i 0 + 256 * get_or tape (i + 1) 0) (get_or tape i 0)

-- 5 where fewer tape bytes remain
unfoldable pub inputs : Bool → ℕ → World → Access
inputs b n w =
    pick (leb (w.state.progress.tape + bytes_of b) (length w.tape))
    (recording w (taped b w.tape w.state.progress.tape) (bytes_of b) (record_bytes rule w.state.progress.count (key_of false b n) (taped b w.tape w.state.progress.tape)))
    (short 5)

unfoldable pub outputs : Bool → ℕ → ℕ → World → Access
outputs b n v w = recording w v 0 (record_bytes rule w.state.progress.count (key_of true b n) v)

-- ---- the handler

-- what happened, in its order
pub data Event : Type 0 where
  reads : Bool → (segment offset : ℕ) → Event
  -- with how many of its bytes were dropped
  writes : Bool → (segment offset v dropped : ℕ) → Event
  takes gives : Bool → (port v : ℕ) → Event
  asks : Flag → Event
  copies : Bool → Event
  changes : (Flag → Effect) → Event

-- what comes of a tree: a refusal, or a value and the world afterwards; and what happened
pub data Outcome (A : Type 0) : Type 0 where
  refused : ℕ → List Event → Outcome A
  done : A → World → List Event → Outcome A

abbrev pub then : {A : Type 0} → Event → Outcome A → Outcome A
then e (refused n t) = refused n (e ∷ t)
then e (done a w t) = done a w (e ∷ t)

abbrev pub ported : {A : Type 0} → Access → (ℕ → World → Outcome A) → Outcome A
ported (short n) f = refused n []
ported (through v w) f = f v w

-- under choices for the unknown flags, one for each node that changes flags
unfoldable pub run_by : {A : Type 0} → (ℕ → Choice) → Act A → World → Outcome A
run_by u (pure a) w = done a w []
run_by u (refuse n) w = refused n []
run_by u (get k) w = run_by u (k (file_of w.state.file)) w
run_by u (put n v p) w = run_by u p (with_state w (with_file w.state (written w.state.file n v)))
run_by u (ask f k) w = then (asks f) (run_by u (k (flag_of (psw_of w.state) f)) w)
run_by u (copy b k) w = then (copies b) (run_by u (k (wrap_of b (psw_of w.state))) w)
run_by u (flags c p) w =
    then (changes c) (run_by (λ i. u (suc i)) p (with_state w (with_psw w.state (settled (u zero) c (psw_of w.state)))))
run_by u (load b g o k) w = then (reads b g o) (run_by u (k (read_mem b w.ram w.rom g o)) w)
run_by u (store b g o v p) w = then (writes b g o v (lost_bytes b w.ram g o)) (run_by u p (with_ram w (write_mem b w.ram g o v)))
run_by u (input b n k) w = ported (inputs b n w) (λ v w'. then (takes b n v) (run_by u (k v) w'))
run_by u (output b n v p) w = ported (outputs b n v w) (λ x w'. then (gives b n v) (run_by u p w'))
run_by u (halt b p) w = run_by u p (with_state w (with_halted w.state b))
run_by u (cross c p) w = run_by u p (with_state w (crossed c w.state))

-- document 01's choice, at every node
abbrev pub kept : ℕ → Choice
kept i = keeps

-- a tree under document 01's choice
unfoldable pub run : {A : Type 0} → Act A → World → Outcome A
run p w = run_by kept p w

abbrev pub happened : {A : Type 0} → Outcome A → List Event
happened (refused n t) = t
happened (done a w t) = t

-- ---- what is counted over it

abbrev pub nothing : Bus
nothing = record { cycles = 0; dropped = 0 }

infixl 60 ◌⊕◌
abbrev pub ◌⊕◌ : Bus → Bus → Bus
a ⊕ b = record { cycles = a.cycles + b.cycles; dropped = a.dropped + b.dropped }

-- an access that drops d bytes, and one that drops none
abbrev pub bus_with : Bool → ℕ → ℕ → Bus
bus_with b o d = record { cycles = bus_cycles b o; dropped = d }

abbrev pub bus_of : Bool → ℕ → Bus
bus_of b o = bus_with b o 0

abbrev pub cost : Event → Bus
cost (reads b g o) = bus_of b o
cost (writes b g o v d) = bus_with b o d
cost (takes b n v) = bus_of b n
cost (gives b n v) = bus_of b n
cost (asks f) = nothing
cost (copies b) = nothing
cost (changes c) = nothing

unfoldable pub tally : List Event → Bus
tally [] = nothing
tally (e ∷ t) = cost e ⊕ tally t
