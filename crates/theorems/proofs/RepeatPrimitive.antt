-- One single primitive in closed form: it goes by the bytes of its blocks only, and writes nothing else.
use Prim.Native.Nat.{ℕ, ◌+◌, ◌-◌, ◌<◌}
use mathlib.Core.Path.{◌≡◌, refl, ap}
use mathlib.Core.Bool.{Bool, true, false, false≢true}
use mathlib.Core.Logic.{◌≢◌}
use mathlib.Core.List.{List, [], ◌∷◌}
use lib.Dec.{T, ltb, leb}
use borrow.Author.Tests.{ltb-true}
use lib.ListN.{length, get_or}
use Rattle.sheet.specs.declared.State.{State}
use Rattle.sheet.specs.declared.Primitive.{Primitive}
use Rattle.sheet.specs.declared.Primitive.TheVariants.{Movbk, Cmpbk, Cmpm, Ldm, Stm, Inm, Outm}
use Rattle.sheet.specs.Width.{pick}
use Rattle.sheet.specs.Psw.{DIR, column}
use Rattle.sheet.specs.Registers.{AW, IX, IY, DS1, file_of, segment, read_reg}
use Rattle.sheet.specs.Memory.{byte_at, read_mem, write_mem, lost_bytes}
use Rattle.sheet.specs.World.{World, world, with_file, marks_of}
use Rattle.sheet.specs.Act.{◌>>=◌}
use Rattle.sheet.specs.Operand.{reg_value, set_reg}
use Rattle.sheet.specs.Arithmetic.{difference}
use Rattle.sheet.specs.Block.{step_index, source_element, target_element, set_target, primitive}
use Rattle.sheet.specs.Handler.{Event, reads, writes, asks, changes, Outcome, refused, done, kept, run_by, run, happened}
use Rattle.sheet.proofs.Reach.{Covers, Within, Spares}
use Rattle.sheet.proofs.Lent.{Leaves, leaves, write_mem_length}
use Rattle.sheet.proofs.Rests.{Same, same_refused, same_done, rests, HoldsAt, spared}
use Rattle.theorems.specs.Repeat.{of_memory, has_source, has_target, writes_target, placed}
use Rattle.theorems.proofs.RepeatFile.{made, stepped, compared, loaded, made_placed, placed_reg, placed_reads, placed_segment}

-- the element due in each block
abbrev pub source_due : Bool → ℕ → (f ram rom : List ℕ) → ℕ
source_due b seg f ram rom = read_mem b ram rom (file_of f (segment seg)) (get_or f IX 0)

abbrev pub target_due : Bool → (f ram rom : List ℕ) → ℕ
target_due b f ram rom = read_mem b ram rom (get_or f DS1 0) (get_or f IY 0)

-- registers, RAM and events after the primitive
unfoldable pub file_after : Primitive → Bool → ℕ → (f ram rom : List ℕ) → List ℕ
file_after k b seg f ram rom = made k b (source_due b seg f ram rom) (target_due b f ram rom) f

unfoldable pub ram_after : Primitive → Bool → ℕ → (f ram rom : List ℕ) → List ℕ
ram_after Movbk b seg f ram rom = write_mem b ram (get_or f DS1 0) (get_or f IY 0) (source_due b seg f ram rom)
ram_after Cmpbk b seg f ram rom = ram
ram_after Cmpm b seg f ram rom = ram
ram_after Ldm b seg f ram rom = ram
ram_after Stm b seg f ram rom = write_mem b ram (get_or f DS1 0) (get_or f IY 0) (read_reg b (file_of f) AW)
ram_after Inm b seg f ram rom = ram
ram_after Outm b seg f ram rom = ram

unfoldable pub trace : Primitive → Bool → ℕ → (f ram rom : List ℕ) → List Event
trace Movbk b seg f ram rom =
    reads b (file_of f (segment seg)) (get_or f IX 0) ∷ writes b (get_or f DS1 0) (get_or f IY 0) (source_due b seg f ram rom) (lost_bytes b ram (get_or f DS1 0) (get_or f IY 0)) ∷ asks DIR ∷ asks DIR ∷ []
trace Cmpbk b seg f ram rom =
    reads b (file_of f (segment seg)) (get_or f IX 0)
    ∷ reads b (get_or f DS1 0) (get_or f IY 0)
    ∷ changes (column (difference b (source_due b seg f ram rom) (target_due b f ram rom) false).column)
    ∷ asks DIR
    ∷ asks DIR
    ∷ []
trace Cmpm b seg f ram rom =
    reads b (get_or f DS1 0) (get_or f IY 0) ∷ changes (column (difference b (read_reg b (file_of f) AW) (target_due b f ram rom) false).column) ∷ asks DIR ∷ []
trace Ldm b seg f ram rom = reads b (file_of f (segment seg)) (get_or f IX 0) ∷ asks DIR ∷ []
trace Stm b seg f ram rom = writes b (get_or f DS1 0) (get_or f IY 0) (read_reg b (file_of f) AW) (lost_bytes b ram (get_or f DS1 0) (get_or f IY 0)) ∷ asks DIR ∷ []
trace Inm b seg f ram rom = []
trace Outm b seg f ram rom = []

-- the world after it
abbrev pub worked : Primitive → Bool → ℕ → World → World
worked k b seg w =
    world (with_file w.state (file_after k b seg w.state.file w.ram w.rom)) (ram_after k b seg w.state.file w.ram w.rom) w.rom w.tape w.log

pub primitive_is : (k : Primitive) (b : Bool) (seg : ℕ) (w : World) → of_memory k ≡ true
    → run (primitive k b seg) w ≡ done tt (worked k b seg w) (trace k b seg w.state.file w.ram w.rom)
unfolding run run_by primitive step_index source_element target_element set_target reg_value set_reg ◌>>=◌ file_after ram_after trace made stepped compared loaded
primitive_is Movbk b seg w m = refl
primitive_is Cmpbk b seg w m = refl
primitive_is Cmpm b seg w m = refl
primitive_is Ldm true seg w m = refl
primitive_is Ldm false seg w m = refl
primitive_is Stm b seg w m = refl
primitive_is Inm b seg w m = absurd (false≢true m)
primitive_is Outm b seg w m = absurd (false≢true m)

-- ---- CW and PC are no part of it

module _ (c p : ℕ) (k : Primitive) (b : Bool) (seg : ℕ) (f ram rom : List ℕ) (e : length f ≡ 14) where
  source_placed : source_due b seg (placed c p f) ram rom ≡ source_due b seg f ram rom
  source_placed = rw (placed_segment c p f e seg, (placed_reads c p f e).ix)

  target_placed : target_due b (placed c p f) ram rom ≡ target_due b f ram rom
  target_placed = rw ((placed_reads c p f e).ds1, (placed_reads c p f e).iy)

  pub file_placed : file_after k b seg (placed c p f) ram rom ≡ placed c p (file_after k b seg f ram rom)
  unfolding file_after
  file_placed = rw (source_placed, target_placed) (made_placed c p k b (source_due b seg f ram rom) (target_due b f ram rom) f e)

module _ (c p : ℕ) (b : Bool) (seg : ℕ) (f ram rom : List ℕ) (e : length f ≡ 14) where
  pub ram_placed : (k : Primitive) → ram_after k b seg (placed c p f) ram rom ≡ ram_after k b seg f ram rom
  unfolding ram_after
  ram_placed Movbk = rw (source_placed c p Movbk b seg f ram rom e, (placed_reads c p f e).ds1, (placed_reads c p f e).iy)
  ram_placed Cmpbk = refl
  ram_placed Cmpm = refl
  ram_placed Ldm = refl
  ram_placed Stm = rw (placed_reg c p b f e, (placed_reads c p f e).ds1, (placed_reads c p f e).iy)
  ram_placed Inm = refl
  ram_placed Outm = refl

  pub trace_placed : (k : Primitive) → trace k b seg (placed c p f) ram rom ≡ trace k b seg f ram rom
  unfolding trace
  trace_placed Movbk = rw (placed_segment c p f e seg, (placed_reads c p f e).ix, (placed_reads c p f e).ds1, (placed_reads c p f e).iy)
  trace_placed Cmpbk = rw (placed_segment c p f e seg, (placed_reads c p f e).ix, (placed_reads c p f e).ds1, (placed_reads c p f e).iy)
  trace_placed Cmpm = rw (placed_reg c p b f e, (placed_reads c p f e).ds1, (placed_reads c p f e).iy)
  trace_placed Ldm = rw (placed_segment c p f e seg, (placed_reads c p f e).ix)
  trace_placed Stm = rw (placed_reg c p b f e, (placed_reads c p f e).ds1, (placed_reads c p f e).iy)
  trace_placed Inm = refl
  trace_placed Outm = refl

-- ---- of memory it reads its blocks alone

-- memories of one length that agree on K
pub record Agree (K : ℕ → Type 0) (ram rom ram' rom' : List ℕ) : Type 0 where
  pub long : length ram ≡ length ram'
  pub same : (a : ℕ) → K a → byte_at ram rom a ≡ byte_at ram' rom' a

-- K has the bytes of the elements that are due
abbrev pub CoversDue : (ℕ → Type 0) → Primitive → Bool → ℕ → List ℕ → Type 0
CoversDue K k b seg f =
    (T (has_source k) → Covers K b (file_of f (segment seg)) (get_or f IX 0)) × (T (has_target k) → Covers K b (get_or f DS1 0) (get_or f IY 0))

within_due : (K : ℕ → Type 0) (k : Primitive) (b : Bool) (seg : ℕ) (f ram rom : List ℕ) → CoversDue K k b seg f → Within K (trace k b seg f ram rom)
unfolding trace
within_due K Movbk b seg f ram rom h = (h.0 tt, (tt, (tt, (tt, tt))))
within_due K Cmpbk b seg f ram rom h = (h.0 tt, (h.1 tt, (tt, (tt, (tt, tt)))))
within_due K Cmpm b seg f ram rom h = (h.1 tt, (tt, (tt, tt)))
within_due K Ldm b seg f ram rom h = (h.0 tt, (tt, tt))
within_due K Stm b seg f ram rom h = (tt, (tt, tt))
within_due K Inm b seg f ram rom h = tt
within_due K Outm b seg f ram rom h = tt

-- what two outcomes that are the same have in common
abbrev Common : (ℕ → Type 0) → Outcome Unit → Outcome Unit → Type 0
Common K (refused n t) o = Unit
Common K (done a w t) (refused n t') = Unit
Common K (done a w t) (done a' w' t') = (w.state ≡ w'.state) × (t ≡ t') × Agree K w.ram w.rom w'.ram w'.rom

common : {K : ℕ → Type 0} {o o' : Outcome Unit} → Same K 0 [] o o' → Common K o o'
common same_refused = tt
common (same_done l) = (refl, refl, record { long = l.ram_long; same = l.bytes })

-- registers and events are the same, and the memories agree again
pub record Alike (K : ℕ → Type 0) (k : Primitive) (b : Bool) (seg : ℕ) (f ram rom ram' rom' : List ℕ) : Type 0 where
  pub file : file_after k b seg f ram rom ≡ file_after k b seg f ram' rom'
  pub events : trace k b seg f ram rom ≡ trace k b seg f ram' rom'
  pub memory : Agree K (ram_after k b seg f ram rom) rom (ram_after k b seg f ram' rom') rom'

pub primitive_local : (K : ℕ → Type 0) (k : Primitive) (b : Bool) (seg : ℕ) (f ram rom ram' rom' : List ℕ) → of_memory k ≡ true
    → CoversDue K k b seg f → Agree K ram rom ram' rom' → Alike K k b seg f ram rom ram' rom'
primitive_local K k b seg f ram rom ram' rom' m h g =
    let s : State = record { file = f; marks = marks_of false false false; progress = record { tape = 0; log = 0; count = 0 } } in
    let one = primitive_is k b seg (world s ram rom [] []) m in
    let two = primitive_is k b seg (world s ram' rom' [] []) m in
    let within : Within K (happened (run (primitive k b seg) (world s ram rom [] []))) = rw one (within_due K k b seg f ram rom h) in
    let same : Same K 0 [] (run (primitive k b seg) (world s ram rom [] [])) (run (primitive k b seg) (world s ram' rom' [] [])) =
    unfold run in
    rests K 0 [] (primitive k b seg) kept s (record { ram = ram; rom = rom; log = [] }) (record { ram = ram'; rom = rom'; log = [] }) within
    (record { ram_long = g.long; log_long = refl; bytes = g.same; logged = λ i x y. refl }) in
    let (x, y, z) = common (rw (one, two) at same) in
    record { file = ap (λ s. s.file) x; events = y; memory = z }

-- ---- and it writes its target alone

writes_target_lem : (k : Primitive) (b : Bool) (seg : ℕ) (f ram rom : List ℕ) (a : ℕ)
    → (T (writes_target k) → Covers (λ x. a ≢ x) b (get_or f DS1 0) (get_or f IY 0)) → Spares a (trace k b seg f ram rom)
unfolding trace
writes_target_lem Movbk true seg f ram rom a h = (tt, (h tt, (tt, (tt, tt))))
writes_target_lem Movbk false seg f ram rom a h = (tt, (h tt, (tt, (tt, tt))))
writes_target_lem Cmpbk b seg f ram rom a h = (tt, (tt, (tt, (tt, (tt, tt)))))
writes_target_lem Cmpm b seg f ram rom a h = (tt, (tt, (tt, tt)))
writes_target_lem Ldm b seg f ram rom a h = (tt, (tt, tt))
writes_target_lem Stm true seg f ram rom a h = (h tt, (tt, tt))
writes_target_lem Stm false seg f ram rom a h = (h tt, (tt, tt))
writes_target_lem Inm b seg f ram rom a h = tt
writes_target_lem Outm b seg f ram rom a h = tt

pub ram_long : (k : Primitive) (b : Bool) (seg : ℕ) (f ram rom : List ℕ) → length (ram_after k b seg f ram rom) ≡ length ram
unfolding ram_after
ram_long Movbk b seg f ram rom = write_mem_length b ram (get_or f DS1 0) (get_or f IY 0) (source_due b seg f ram rom)
ram_long Cmpbk b seg f ram rom = refl
ram_long Cmpm b seg f ram rom = refl
ram_long Ldm b seg f ram rom = refl
ram_long Stm b seg f ram rom = write_mem_length b ram (get_or f DS1 0) (get_or f IY 0) (read_reg b (file_of f) AW)
ram_long Inm b seg f ram rom = refl
ram_long Outm b seg f ram rom = refl

pub left_of : {Q : World → Type 0} {v : World} {t : List Event} → Leaves {A = Unit {0}} Q (done tt v t) → Q v
left_of (leaves q) = q

ram_spared : (k : Primitive) (b : Bool) (seg : ℕ) (f ram rom : List ℕ) (a : ℕ) → of_memory k ≡ true
    → (T (writes_target k) → Covers (λ x. a ≢ x) b (get_or f DS1 0) (get_or f IY 0)) → get_or (ram_after k b seg f ram rom) a 0 ≡ get_or ram a 0
ram_spared k b seg f ram rom a m h =
    let s : State = record { file = f; marks = marks_of false false false; progress = record { tape = 0; log = 0; count = 0 } } in
    let one = primitive_is k b seg (world s ram rom [] []) m in
    let spares : Spares a (happened (run (primitive k b seg) (world s ram rom [] []))) = rw one (writes_target_lem k b seg f ram rom a h) in
    let l : Leaves (HoldsAt a (get_or ram a 0)) (run (primitive k b seg) (world s ram rom [] [])) =
    unfold run in spared a (get_or ram a 0) (primitive k b seg) kept (world s ram rom [] []) spares refl in
    left_of (rw one at l)

-- a byte changes only where a writer's target is in RAM
pub byte_spared : (k : Primitive) (b : Bool) (seg : ℕ) (f ram rom : List ℕ) (a : ℕ) → of_memory k ≡ true
    → (a < length ram → T (writes_target k) → Covers (λ x. a ≢ x) b (get_or f DS1 0) (get_or f IY 0)) → byte_at (ram_after k b seg f ram rom) rom a ≡ byte_at ram rom a
unfolding byte_at
byte_spared k b seg f ram rom a m h = rw (ram_long k b seg f ram rom) (go (ltb a (length ram)) refl)
  where
    go : (t : Bool) → ltb a (length ram) ≡ t
        → pick t (get_or (ram_after k b seg f ram rom) a 0) (pick (leb 1048576 (a + length rom)) (get_or rom (a + length rom - 1048576) 0) 255)
        ≡ pick t (get_or ram a 0) (pick (leb 1048576 (a + length rom)) (get_or rom (a + length rom - 1048576) 0) 255)
    go true t = ram_spared k b seg f ram rom a m (h (ltb-true a (length ram) t))
    go false t = refl
