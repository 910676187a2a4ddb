-- The trees that a step of a block instruction is made of, each with what it leaves.
use Prim.Native.Nat.{ℕ}
use mathlib.Core.Path.{◌≡◌, refl, ap}
use mathlib.Core.Bool.{Bool, true, false, not, ◌&&◌, ◌||◌, false≢true, not-not}
use mathlib.Core.List.{List, [], ◌∷◌, ◌++◌, append-nil}
use lib.Dec.{eqb}
use lib.ListN.{get_or, set}
use Rattle.sheet.specs.declared.Primitive.{Primitive}
use Rattle.sheet.specs.declared.Primitive.TheVariants.{Movbk, Cmpbk, Cmpm, Ldm, Stm, Inm, Outm}
use Rattle.sheet.specs.declared.Repeat.{Repeat}
use Rattle.sheet.specs.declared.Repeat.TheVariants.{Once, WhileZ, WhileNotZ, WhileCy, WhileNotCy}
use Rattle.sheet.specs.declared.Instr.TheVariants.{Blocks}
use Rattle.sheet.specs.Width.{pick, add16, sub16}
use Rattle.sheet.specs.Psw.{CY, Z, BRK, flag_of}
use Rattle.sheet.specs.Registers.{CW, PC, PSW, File, file_of, written}
use Rattle.sheet.specs.World.{World, with_state, psw_of, with_file}
use Rattle.sheet.specs.Act.{pure, ◌>>=◌, registers, ◌≔◌, flag}
use Rattle.sheet.specs.Handler.{Event, reads, writes, takes, gives, asks, copies, changes, run_by, run}
use Rattle.sheet.specs.Block.{primitive, goes_on, goes_on_after, after_element, element, repeated, block}
use Rattle.sheet.specs.Branch.{count_down}
use Rattle.sheet.specs.Traps.{untrapped}
use Rattle.sheet.specs.Execute.{operation, execute}
use Rattle.sheet.specs.Step.{loads_segment, single_step, stepping}
use Rattle.log_record.proofs.Picked.{picked}
use Rattle.theorems.specs.Repeat.{kind_of, repeats, meets, ends}
use Rattle.theorems.specs.RepeatEngines.{accesses}
use Rattle.theorems.proofs.RepeatRuns.{Runs, runs_then}

-- the world with other registers
abbrev pub with_words : World → List ℕ → World
with_words w f = with_state w (with_file w.state f)

-- ---- accesses of events one after the other

pub accesses_then : (t t' : List Event) → accesses (t ++ t') ≡ accesses t ++ accesses t'
unfolding accesses
accesses_then [] t' = refl
accesses_then (reads b g o ∷ t) t' = ap (λ l. reads b g o ∷ l) (accesses_then t t')
accesses_then (writes b g o v d ∷ t) t' = ap (λ l. writes b g o v d ∷ l) (accesses_then t t')
accesses_then (takes b n v ∷ t) t' = ap (λ l. takes b n v ∷ l) (accesses_then t t')
accesses_then (gives b n v ∷ t) t' = ap (λ l. gives b n v ∷ l) (accesses_then t t')
accesses_then (asks f ∷ t) t' = accesses_then t t'
accesses_then (copies b ∷ t) t' = accesses_then t t'
accesses_then (changes c ∷ t) t' = accesses_then t t'

-- ---- after the primitive

-- what a repeat asks
abbrev pub asked : Repeat → List Event
asked Once = []
asked WhileZ = asks Z ∷ []
asked WhileNotZ = asks Z ∷ []
asked WhileCy = asks CY ∷ []
asked WhileNotCy = asks CY ∷ []

abbrev pub asked_after : Primitive → Repeat → List Event
asked_after k q = pick (kind_of k).compares (asked q) []

abbrev pub on : Primitive → Repeat → ℕ → Bool
on k q x = not (ends k q x)

goes_on_lem : (q : Repeat) (w : World) → Runs Bool (goes_on q) w (meets q (psw_of w.state)) w (asked q)
unfolding goes_on run run_by ◌>>=◌
goes_on_lem Once w = record { is = refl }
goes_on_lem WhileZ w = record { is = refl }
goes_on_lem WhileNotZ w = record { is = refl }
goes_on_lem WhileCy w = record { is = refl }
goes_on_lem WhileNotCy w = record { is = refl }

goes_on_after_lem : (k : Primitive) (q : Repeat) (w : World) → Runs Bool (goes_on_after k q) w (on k q (psw_of w.state)) w (asked_after k q)
unfolding goes_on_after run run_by
goes_on_after_lem Movbk q w = record { is = refl }
goes_on_after_lem Cmpbk q w = rw (not-not (meets q (psw_of w.state))) (goes_on_lem q w)
goes_on_after_lem Cmpm q w = rw (not-not (meets q (psw_of w.state))) (goes_on_lem q w)
goes_on_after_lem Ldm q w = record { is = refl }
goes_on_after_lem Stm q w = record { is = refl }
goes_on_after_lem Inm q w = record { is = refl }
goes_on_after_lem Outm q w = record { is = refl }

-- CW falls by one, and PC goes back unless the repeat is over
unfoldable pub counted : Primitive → Repeat → ℕ → List ℕ → List ℕ
counted k q start f =
    let g : List ℕ = set f CW (sub16 (get_or f CW 0) 1) in
    pick (not (on k q (get_or g PSW 0)) || eqb (sub16 (get_or f CW 0) 1) 0) g (set g PC start)

unless : (more none : Bool) (start : ℕ) (w : World)
    → Runs Unit (pick (more && not none) (PC ≔ start) (pure tt)) w tt (with_words w (pick (not more || none) w.state.file (set w.state.file PC start))) []
unfolding run run_by
unless true true start w = record { is = refl }
unless true false start w = record { is = refl }
unless false none start w = record { is = refl }

registers_run : (w : World) → Runs File registers w (file_of w.state.file) w []
unfolding run run_by
registers_run w = record { is = refl }

count_run : (w : World)
    → Runs Bool count_down w (not (eqb (sub16 (get_or w.state.file CW 0) 1) 0)) (with_words w (set w.state.file CW (sub16 (get_or w.state.file CW 0) 1))) []
unfolding count_down run run_by ◌>>=◌
count_run w = record { is = refl }

set_run : (n x : ℕ) (w : World) → Runs Unit (n ≔ x) w tt (with_words w (written w.state.file n x)) []
unfolding run run_by
set_run n x w = record { is = refl }

brk_run : (w : World) → Runs Bool (flag BRK) w (flag_of (psw_of w.state) BRK) w (asks BRK ∷ [])
unfolding run run_by
brk_run w = record { is = refl }

pub pure_run : {A : Type 0} (a : A) (w : World) → Runs A (pure a) w a w []
unfolding run run_by
pure_run a w = record { is = refl }

-- one element: the primitive, then CW and PC
pub element_run : (k : Primitive) (b : Bool) (seg : ℕ) (q : Repeat) (start : ℕ) {w v : World} {t : List Event} → Runs Unit (primitive k b seg) w tt v t
    → Runs Unit (element k b seg q start) w tt (with_words v (counted k q start v.state.file)) (t ++ ([] ++ (asked_after k q ++ [])))
unfolding element after_element counted
element_run k b seg q start {v = v} p =
    let x : ℕ = sub16 (get_or v.state.file CW 0) 1 in
    let u : World = with_words v (set v.state.file CW x) in
    runs_then (λ _. after_element k q start) p
    (runs_then (λ left. goes_on_after k q >>= λ more. pick (more && left) (PC ≔ start) (pure tt)) (count_run v)
    (runs_then (λ more. pick (more && not (eqb x 0)) (PC ≔ start) (pure tt)) (goes_on_after_lem k q u) (unless (on k q (psw_of u.state)) (eqb x 0) start u)))

-- a repeat prefix: nothing more with CW = 0, one element otherwise
pub block_repeated : (k : Primitive) (b : Bool) (seg : ℕ) (q : Repeat) (start : ℕ) → repeats q ≡ true → block k b seg q start ≡ repeated k b seg q start
unfolding block
block_repeated k b seg Once start e = absurd (false≢true e)
block_repeated k b seg WhileZ start e = refl
block_repeated k b seg WhileNotZ start e = refl
block_repeated k b seg WhileCy start e = refl
block_repeated k b seg WhileNotCy start e = refl

pub repeated_run : (k : Primitive) (b : Bool) (seg : ℕ) (q : Repeat) (start : ℕ) {w v : World} {t : List Event}
    → Runs Unit (pick (eqb (get_or w.state.file CW 0) 0) (pure tt) (element k b seg q start)) w tt v t → Runs Unit (repeated k b seg q start) w tt v ([] ++ t)
unfolding repeated
repeated_run k b seg q start {w} h = runs_then (λ r. pick (eqb (r CW) 0) (pure tt) (element k b seg q start)) (registers_run w) h

-- the step around the instruction
abbrev pub around : List Event → List Event
around t = (asks BRK ∷ []) ++ (([] ++ ([] ++ (t ++ []))) ++ [])

-- PC is moved past an instruction of n bytes first
abbrev pub moved : ℕ → World → World
moved n w = with_words w (set w.state.file PC (add16 (get_or w.state.file PC 0) n))

pub stepping_run : (k : Primitive) (b : Bool) (seg : ℕ) (q : Repeat) (n : ℕ) {w v : World} {t : List Event} → flag_of (psw_of w.state) BRK ≡ false
    → Runs Unit (block k b seg q (get_or w.state.file PC 0)) (moved n w) tt v t → Runs Unit (stepping (Blocks k b seg q) n) w tt v (around t)
unfolding loads_segment stepping execute operation untrapped single_step
stepping_run k b seg q n {w} {v} e h =
    let start : ℕ = get_or w.state.file PC 0 in
    runs_then (λ traced. execute (Blocks k b seg q) n >>= λ trapped. single_step ((traced && not false) && not trapped)) (brk_run w)
    (rw e
    (runs_then (λ trapped. single_step (false && not trapped))
    (runs_then (λ r. PC ≔ add16 (r PC) n >>= λ _. operation (Blocks k b seg q) (r PC)) (registers_run w)
    (runs_then (λ _. operation (Blocks k b seg q) start) (set_run PC (add16 start n) w)
    (runs_then (λ _. pure false) h (pure_run false v))))
    (pure_run tt v)))

pub around_accesses : (t : List Event) → accesses (around t) ≡ accesses t
unfolding accesses
around_accesses t = rw (append-nil t, append-nil t)

asked_flag : (q : Repeat) → accesses (asked q) ≡ []
unfolding accesses
asked_flag Once = refl
asked_flag WhileZ = refl
asked_flag WhileNotZ = refl
asked_flag WhileCy = refl
asked_flag WhileNotCy = refl

asked_nothing : (k : Primitive) (q : Repeat) → accesses (asked_after k q) ≡ []
unfolding accesses
asked_nothing k q = picked (λ (t : List Event). accesses t ≡ []) (kind_of k).compares (asked_flag q) refl

pub asked_accesses : (k : Primitive) (q : Repeat) (t : List Event) → accesses (t ++ ([] ++ ([] ++ (asked_after k q ++ [])))) ≡ accesses t
asked_accesses k q t = rw (append-nil (asked_after k q), accesses_then t (asked_after k q), asked_nothing k q, append-nil (accesses t))
