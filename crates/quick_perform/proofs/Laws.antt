-- What each return of the code comes to, over plain values.
use Prim.Native.Nat.{ℕ, zero, suc, ◌+◌, ◌/◌, ◌%◌, ◌≤◌}
use mathlib.Core.Path.{◌≡◌, refl, ◌∙◌}
use mathlib.Core.Bool.{Bool, true, false, ◌&&◌, true≢false}
use mathlib.Core.List.{List, [], ◌∷◌, map}
use native.Mathlib.Decide.{ℕ_discrete}
use native.Mathlib.Omega.{arith}
use lib.Dec.{leb, lit≤}
use lib.ListN.{get_or, set, length, get_or-map}
use borrow.Author.Tests.{le-leb}
use Rattle.sheet.specs.declared.Instr.{Instr}
use Rattle.sheet.specs.declared.Instr.TheVariants.{Controls}
use Rattle.sheet.specs.declared.Control.TheVariants.{Nop}
use Rattle.sheet.specs.Width.{add16}
use Rattle.sheet.specs.Registers.{PC}
use Rattle.sheet.specs.Act.{Act, pure}
use Rattle.sheet.specs.Traps.{untrapped}
use Rattle.sheet.specs.Transfer.{transfer}
use Rattle.sheet.specs.Stack.{push_place, stack}
use Rattle.sheet.specs.declared.Bus.{Bus}
use Rattle.sheet.specs.declared.Conditional.TheVariants.{Bcwz, Dbnzne, Dbnze}
use Rattle.sheet.specs.Branch.{branch, conditional, bcwz, dbnz_while}
use Rattle.sheet.specs.Control.{control}
use Rattle.sheet.specs.Arithmetic.{calculate}
use Rattle.sheet.specs.Execute.{computing, moving, operation, execute}
use Rattle.sheet.specs.Contract.{OnFile, OnMemory}
use Rattle.sheet.proofs.Lifted.{file_pure, file_seq, file_registers, file_set, memory_free, memory_last, memory_at_most, on_memory}
use Rattle.mach_tally.specs.Sums.{Free}
use Rattle.quick_perform.specs.Tries.{Tries}
use Rattle.quick_place.specs.Packed.{kind_of, size_of, disp_of}
use Rattle.quick_place.specs.Kinds.{Unkinded}
use Rattle.quick_pack.specs.Readings.{readings_0, readings_16, readings_32, readings_48, at_port, groups, instr_of}
use Rattle.quick_perform.specs.Trees.{trees_0, trees_16, trees_32}

-- ---- instructions and their trees_0, one by one

data Does (start : ℕ) : List Instr → List (Act Bool) → Type 0 where
  none : Does start [] []
  more : {i : Instr} {t : Act Bool} {is : List Instr} {ts : List (Act Bool)} → operation i start ≡ t → Does start is ts → Does start (i ∷ is) (t ∷ ts)

each_0 : (r start : ℕ) → Does start (readings_0 r) (map untrapped (trees_0 r))
unfolding readings_0 operation computing calculate moving transfer stack push_place branch conditional control
each_0 r start = more refl (more refl (more refl (more refl (more refl (more refl (more refl (more refl (more refl (more refl (more refl (more refl (more refl none))))))))))))

each_16 : (r start : ℕ) → Does start (readings_16 r) (map untrapped (trees_16 r))
unfolding readings_16 operation computing calculate moving transfer branch conditional
each_16 r start = more refl (more refl (more refl (more refl (more refl (more refl (more refl (more refl (more refl (more refl (more refl (more refl (more refl (more refl none)))))))))))))

each_32 : (r start : ℕ) → Does start (readings_32 r) (trees_32 r start)
unfolding readings_32 operation computing moving transfer branch conditional
each_32 r start = more refl (more refl (more refl (more refl (more refl (more refl (more refl (more refl (more refl (more refl (more refl (more refl (more refl none))))))))))))

tree_at : {start : ℕ} {is : List Instr} {ts : List (Act Bool)} → Does start is ts → (k : ℕ) → operation (get_or is k (Controls Nop)) start ≡ get_or ts k (untrapped (pure tt))
unfolding operation control
tree_at none zero = refl
tree_at none (suc k) = refl
tree_at (more e d) zero = e
tree_at (more e d) (suc k) = tree_at d k

-- those that take no trap
bare_at : {start : ℕ} {is : List Instr} (ts : List (Act Unit)) → Does start is (map untrapped ts) → (k : ℕ) → operation (get_or is k (Controls Nop)) start ≡ untrapped (get_or ts k (pure tt))
bare_at ts d k = tree_at d k ∙ get_or-map untrapped ts k (pure tt)

-- ---- the arms, by the page of sixteen kinds that each is on

past : {A : Type 0} (l : List A) (k : ℕ) (d : A) → length l ≤ k → get_or l k d ≡ d
past [] zero d h = refl
past [] (suc k) d h = refl
past (a ∷ l) zero d h = absurd (omega arith)
past (a ∷ l) (suc k) d h = past l k d (omega arith)

module _ (r k start : ℕ) (f g ram ram' rom : List ℕ) (n : Bus) (known : kind_of r ≡ k) where
  module _ (page : k / 16 ≡ 0) where
    pub memory_0 : OnMemory Unit (get_or (trees_0 r) (k % 16) (pure tt)) f ram rom tt g ram' n 6 → Tries (operation (instr_of r) start) f ram rom g ram' n 384
    unfolding instr_of untrapped
    memory_0 h = record { trapped = false; does = rw (known, page, bare_at (trees_0 r) (each_0 r start) (k % 16)) (memory_at_most {t = 6} 384 (lit≤ tt) (memory_last _ h file_pure)) }

    pub file_0 : Free n → OnFile Unit (get_or (trees_0 r) (k % 16) (pure tt)) f tt g → Tries (operation (instr_of r) start) f ram rom g ram n 384
    unfolding instr_of untrapped
    file_0 z h = record { trapped = false; does = rw (known, page, z.is, bare_at (trees_0 r) (each_0 r start) (k % 16)) (on_memory ram rom 384 (file_seq _ h file_pure)) }

  module _ (page : k / 16 ≡ 1) where
    pub memory_16 : OnMemory Unit (get_or (trees_16 r) (k % 16) (pure tt)) f ram rom tt g ram' n 6 → Tries (operation (instr_of r) start) f ram rom g ram' n 384
    unfolding instr_of untrapped
    memory_16 h = record { trapped = false; does = rw (known, page, bare_at (trees_16 r) (each_16 r start) (k % 16)) (memory_at_most {t = 6} 384 (lit≤ tt) (memory_last _ h file_pure)) }

    pub file_16 : Free n → OnFile Unit (get_or (trees_16 r) (k % 16) (pure tt)) f tt g → Tries (operation (instr_of r) start) f ram rom g ram n 384
    unfolding instr_of untrapped
    file_16 z h = record { trapped = false; does = rw (known, page, z.is, bare_at (trees_16 r) (each_16 r start) (k % 16)) (on_memory ram rom 384 (file_seq _ h file_pure)) }

  module _ (page : k / 16 ≡ 2) where
    pub tries_32 : Tries (get_or (trees_32 r start) (k % 16) (untrapped (pure tt))) f ram rom g ram' n 384 → Tries (operation (instr_of r) start) f ram rom g ram' n 384
    unfolding instr_of
    tries_32 h = rw (known, page, tree_at (each_32 r start) (k % 16)) h

    pub memory_32 : (t : Act Unit) → OnMemory Unit t f ram rom tt g ram' n 384 → get_or (trees_32 r start) (k % 16) (untrapped (pure tt)) ≡ untrapped t → Tries (operation (instr_of r) start) f ram rom g ram' n 384
    unfolding untrapped
    memory_32 t h bare = tries_32 (rw bare (record { trapped = false; does = memory_last _ h file_pure }))

module _ (r k start : ℕ) (f g ram rom : List ℕ) (n : Bus) (known : kind_of r ≡ k) (page : k / 16 ≡ 2) where
  pub file_32 : (t : Act Unit) → Free n → OnFile Unit t f tt g → get_or (trees_32 r start) (k % 16) (untrapped (pure tt)) ≡ untrapped t → Tries (operation (instr_of r) start) f ram rom g ram n 384
  file_32 t z h bare = memory_32 r k start f g ram ram rom n known page t (rw z.is (on_memory ram rom 384 h)) bare

-- the branches that test
module _ (r start d : ℕ) (f g ram rom : List ℕ) (n : Bus) (disp : d ≡ disp_of r) (free : Free n) where
  pub bcwz_is : kind_of r ≡ 36 → OnFile Unit (conditional (Bcwz d)) f tt g → Tries (operation (instr_of r) start) f ram rom g ram n 384
  unfolding conditional
  bcwz_is e h = file_32 r 36 start f g ram rom n e refl (bcwz (disp_of r)) free (rw (← disp) h) refl

  pub dbnzne_is : kind_of r ≡ 43 → OnFile Unit (conditional (Dbnzne d)) f tt g → Tries (operation (instr_of r) start) f ram rom g ram n 384
  unfolding conditional
  dbnzne_is e h = file_32 r 43 start f g ram rom n e refl (dbnz_while false (disp_of r)) free (rw (← disp) h) refl

  pub dbnze_is : kind_of r ≡ 44 → OnFile Unit (conditional (Dbnze d)) f tt g → Tries (operation (instr_of r) start) f ram rom g ram n 384
  unfolding conditional
  dbnze_is e h = file_32 r 44 start f g ram rom n e refl (dbnz_while true (disp_of r)) free (rw (← disp) h) refl

-- ---- no other kind does anything

nothing_at : (k : ℕ) → get_or [] k (Controls Nop) ≡ Controls Nop
nothing_at zero = refl
nothing_at (suc k) = refl

nop_of : (r : ℕ) → Unkinded (kind_of r) → instr_of r ≡ Controls Nop
unfolding instr_of readings_0 readings_16 readings_32 readings_48
nop_of r u = go (kind_of r) refl u
  where
    at : (k : ℕ) → Unkinded k → (p : ℕ) → k / 16 ≡ p → get_or (get_or (groups r) p []) (k % 16) (Controls Nop) ≡ Controls Nop
    at k u zero e = zeroth (ℕ_discrete k 0)
      where
        zeroth : Dec (k ≡ 0) → get_or (readings_0 r) (k % 16) (Controls Nop) ≡ Controls Nop
        zeroth (yes z) = rw z refl
        zeroth (no z) = let l = u.first (omega arith) z in past (readings_0 r) (k % 16) (Controls Nop) (let m : 13 ≤ k % 16 = omega arith in m)
    at k u (suc zero) e = let l = u.second (omega arith) (omega arith) in past (readings_16 r) (k % 16) (Controls Nop) (let m : 14 ≤ k % 16 = omega arith in m)
    at k u (suc (suc zero)) e = let l = u.third (omega arith) (omega arith) in past (readings_32 r) (k % 16) (Controls Nop) (let m : 13 ≤ k % 16 = omega arith in m)
    at k u (suc (suc (suc zero))) e = let l = u.last (omega arith) in past (readings_48 r) (k % 16) (Controls Nop) (let m : 3 ≤ k % 16 = omega arith in m)
    at k u (suc (suc (suc (suc p)))) e = nothing_at (k % 16)

    go : (k : ℕ) → kind_of r ≡ k → Unkinded k → instr_of r ≡ Controls Nop
    go k e u = rw e (at k u (k / 16) refl)

nop_is : (start : ℕ) (f ram rom : List ℕ) (n : Bus) → Free n → OnMemory Bool (operation (Controls Nop) start) f ram rom false f ram n 384
unfolding operation control untrapped
nop_is start f ram rom n z = rw z.is (on_memory ram rom 384 (file_seq _ file_pure file_pure))

module _ (r start : ℕ) (f ram rom : List ℕ) (n : Bus) (free : Free n) where
  pub does_nothing : Unkinded (kind_of r) → Tries (operation (instr_of r) start) f ram rom f ram n 384
  does_nothing u = record { trapped = false; does = rw (nop_of r u) (nop_is start f ram rom n free) }

pub performs : (r start size next : ℕ) (n : Bus) (f g ram ram' rom : List ℕ) → start ≡ get_or f PC 0 → size ≡ size_of r → next ≡ add16 start size → Tries (operation (instr_of r) start) (set f PC next) ram rom g ram' n 384
    → Tries (execute (instr_of r) (size_of r)) f ram rom g ram' n 1020
unfolding execute
performs r start size next n f g ram ram' rom a z d h =
    record { trapped = h.trapped; does = memory_at_most {t = 384} 1020 (lit≤ tt) (memory_free _ file_registers (memory_free _ (file_set PC (add16 (get_or f PC 0) (size_of r))) (rw (← a, ← z, ← d) h.does))) }
