-- A step makes the record of the one port access that its instruction makes, and no other; and when it is refused by 5 or 6.
use Prim.Native.Nat.{ℕ, ◌+◌, ◌≤◌, ◌<◌}
use mathlib.Core.Path.{◌≡◌, refl, sym, ap, subst, ◌∙◌}
use mathlib.Core.Bool.{Bool, true, false, not, ◌&&◌, and-eq-true_iff}
use mathlib.Core.List.{List, ◌∷◌}
use mathlib.Core.Logic.{◌≢◌}
use native.Mathlib.Nat.{add-zero}
use native.Mathlib.Omega.{arith}
use lib.ListN.{length, get_or, set}
use lib.Seq.{get_or-set_other}
use lib.Dec.{eqb, leb, ltb}
use borrow.Author.Tests.{leb-true, leb-false}
use Rattle.sheet.specs.declared.Instr.{Instr}
use Rattle.sheet.specs.declared.Instr.TheVariants.{Computes, Moves, Multiplies, Interrupts, Blocks, Ports, Controls, Modes, Cards}
use Rattle.sheet.specs.declared.cards.Card.{Card}
use Rattle.sheet.specs.declared.cards.Card.TheVariants as cards
use Rattle.sheet.specs.declared.Primitive.{Primitive}
use Rattle.sheet.specs.declared.Primitive.TheVariants.{Movbk, Cmpbk, Cmpm, Ldm, Stm, Inm, Outm}
use Rattle.sheet.specs.declared.Repeat.{Repeat}
use Rattle.sheet.specs.declared.Repeat.TheVariants.{Once, WhileZ, WhileNotZ, WhileCy, WhileNotCy}
use Rattle.sheet.specs.declared.Port.TheVariants.{InDw, Numbered}
use Rattle.sheet.specs.declared.Io.{Io}
use Rattle.sheet.specs.declared.Io.TheVariants.{In, Out}
use Rattle.sheet.specs.Width.{pick, bytes_of, add16}
use Rattle.sheet.specs.Psw.{Flag, Choice, flag_of, fixed_of}
use Rattle.sheet.specs.Registers.{AW, CW, DW, IX, PC, PSW, File, file_of, written, segment, read_reg}
use Rattle.sheet.specs.Memory.{read_mem}
use Rattle.sheet.specs.Log.{rule, key_of, record_bytes, write_log}
use Rattle.sheet.specs.World.{World, world, with_state, psw_of, with_file, recorded}
use Rattle.sheet.specs.Act.{Act, pure, get, put, ask, load, input, output, ◌>>=◌}
use Rattle.sheet.specs.Handler.{Event, reads, takes, gives, asks, Outcome, refused, done, kept, then, short, through, taped, recording, inputs, outputs, ported, run_by}
use Rattle.sheet.specs.Operand.{reg_value}
use Rattle.sheet.specs.Block.{source_element, primitive, element, repeated, block}
use Rattle.sheet.specs.Ports.{port_number, ports}
use Rattle.sheet.specs.Reading.{known}
use Rattle.sheet.specs.Traps.{untrapped}
use Rattle.sheet.specs.Execute.{carding, operation, execute}
use Rattle.sheet.specs.Step.{fits, psw_good, places_good, sound, starting, stepping}
use Rattle.sheet.proofs.StepLaws.{Stepped}
use Rattle.theorems.specs.Repeat.{reg, repeats}
use Rattle.theorems.specs.Rows.{Use, none, access, rows_of_use, rows_of}
use Rattle.theorems.specs.Access.{taken_by, of_io, of_primitive, of_card, access_of, tape_need, log_need}
use Rattle.theorems.specs.Outcomes.{Passes}
use Rattle.theorems.proofs.Quiet.{Quiet, q_pure, quiet_seq, Silent, silent, quiet_silent}
use Rattle.theorems.proofs.Widths.{Holds}
use Rattle.theorems.proofs.BoundsOperands.{of_set_reg}
use Rattle.theorems.proofs.BoundsFlow.{of_step_index, of_set_target, of_primitive_lem, of_after_element}
use Rattle.theorems.proofs.BoundsCards.{of_carding}
use Rattle.theorems.proofs.BoundsReading.{Fine, ScannedTo, read}
use Rattle.theorems.proofs.BoundsStep.{of_operation, of_single_step, reads_fine}

-- ---- trees that, begun in a world, come to one access

data Leads {A : Type 0} : Act A → World → Use → Type 0 where
  l_quiet : {p : Act A} {w : World} → Quiet p → Leads p w none
  l_get : {k : File → Act A} {w : World} {due : Use} → Leads (k (file_of w.state.file)) w due → Leads (get k) w due
  l_put : {n v : ℕ} {p : Act A} {w : World} {due : Use} → Leads p (with_state w (with_file w.state (written w.state.file n v))) due → Leads (put n v p) w due
  l_ask : {f : Flag} {k : Bool → Act A} {w : World} {due : Use} → Leads (k (flag_of (psw_of w.state) f)) w due → Leads (ask f k) w due
  l_load : {b : Bool} {g o : ℕ} {k : ℕ → Act A} {w : World} {due : Use} → Leads (k (read_mem b w.ram w.rom g o)) w due → Leads (load b g o k) w due
  l_input : {b : Bool} {n : ℕ} {k : ℕ → Act A} {w : World} → ((v : ℕ) → Quiet (k v)) → Leads (input b n k) w (taken_by w b n)
  l_output : {b : Bool} {n v : ℕ} {p : Act A} {w : World} → Quiet p → Leads (output b n v p) w (access true b n v)

-- what comes behind it uses no port
leads_then : {A B : Type 0} {p : Act A} {w : World} {due : Use} {f : A → Act B} → Leads p w due → ((a : A) → Quiet (f a)) → Leads (p >>= f) w due
unfolding ◌>>=◌
leads_then (l_quiet q) g = l_quiet (quiet_seq q g)
leads_then (l_get h) g = l_get (leads_then h g)
leads_then (l_put h) g = l_put (leads_then h g)
leads_then (l_ask h) g = l_ask (leads_then h g)
leads_then (l_load h) g = l_load (leads_then h g)
leads_then (l_input h) g = l_input λ v. quiet_seq (h v) g
leads_then (l_output q) g = l_output (quiet_seq q g)

leads_ports : (i : Io) (w : World) → Leads (ports i) w (of_io w i)
unfolding ports port_number reg_value ◌>>=◌
leads_ports (In b InDw) w = l_get (l_input λ v. (of_set_reg b AW v).quiet refl)
leads_ports (In b (Numbered n)) w = l_input λ v. (of_set_reg b AW v).quiet refl
leads_ports (Out b InDw) w = l_get (l_get (l_output q_pure))
leads_ports (Out b (Numbered n)) w = l_get (l_output q_pure)

leads_primitive : (k : Primitive) (b : Bool) (seg : ℕ) (w : World) → Leads (primitive k b seg) w (of_primitive w k b seg)
unfolding primitive source_element ◌>>=◌
leads_primitive Movbk b seg w = l_quiet ((of_primitive_lem Movbk b seg).quiet refl)
leads_primitive Cmpbk b seg w = l_quiet ((of_primitive_lem Cmpbk b seg).quiet refl)
leads_primitive Cmpm b seg w = l_quiet ((of_primitive_lem Cmpm b seg).quiet refl)
leads_primitive Ldm b seg w = l_quiet ((of_primitive_lem Ldm b seg).quiet refl)
leads_primitive Stm b seg w = l_quiet ((of_primitive_lem Stm b seg).quiet refl)
leads_primitive Inm b seg w = l_get (l_input λ v. quiet_seq ((of_set_target b v).quiet refl) λ _. (of_step_index b _).quiet refl)
leads_primitive Outm b seg w = l_get (l_load (l_get (l_output ((of_step_index b _).quiet refl))))

leads_repeated : (k : Primitive) (b : Bool) (seg : ℕ) (q : Repeat) (start : ℕ) (w : World)
    → Leads (repeated k b seg q start) w (pick (eqb (reg w CW) 0) none (of_primitive w k b seg))
unfolding repeated element ◌>>=◌
leads_repeated k b seg q start w = l_get (go (eqb (reg w CW) 0))
  where
    go : (z : Bool) → Leads (pick z (pure tt) (element k b seg q start)) w (pick z none (of_primitive w k b seg))
    go true = l_quiet q_pure
    go false = leads_then (leads_primitive k b seg w) λ _. (of_after_element k q start).quiet refl

leads_card : (i : Card) (w : World) → Leads (carding i) w (of_card w i)
unfolding carding
leads_card (cards.Transfers i) w = l_quiet ((of_carding (cards.Transfers i)).quiet refl)
leads_card (cards.Ports i) w = leads_ports i w
leads_card (cards.Controls i) w = l_quiet ((of_carding (cards.Controls i)).quiet refl)
leads_card (cards.Points i) w = l_quiet ((of_carding (cards.Points i)).quiet refl)
leads_card (cards.Calculates i) w = l_quiet ((of_carding (cards.Calculates i)).quiet refl)
leads_card (cards.Branches i) w = l_quiet ((of_carding (cards.Branches i)).quiet refl)
leads_card (cards.Stacks i) w = l_quiet ((of_carding (cards.Stacks i)).quiet refl)
leads_card (cards.Modes i) w = l_quiet ((of_carding (cards.Modes i)).quiet refl)

leads_operation : (i : Instr) → Fine i → (start : ℕ) (w : World) → Leads (operation i start) w (access_of w i)
unfolding operation untrapped block
leads_operation (Computes i) h start w = l_quiet ((of_operation (Computes i) h start).quiet refl)
leads_operation (Moves i) h start w = l_quiet ((of_operation (Moves i) h start).quiet refl)
leads_operation (Multiplies i) h start w = l_quiet ((of_operation (Multiplies i) h start).quiet refl)
leads_operation (Interrupts i) h start w = l_quiet ((of_operation (Interrupts i) h start).quiet refl)
leads_operation (Blocks k b seg Once) h start w = leads_then (leads_primitive k b seg w) λ _. q_pure
leads_operation (Blocks k b seg WhileZ) h start w = leads_then (leads_repeated k b seg WhileZ start w) λ _. q_pure
leads_operation (Blocks k b seg WhileNotZ) h start w = leads_then (leads_repeated k b seg WhileNotZ start w) λ _. q_pure
leads_operation (Blocks k b seg WhileCy) h start w = leads_then (leads_repeated k b seg WhileCy start w) λ _. q_pure
leads_operation (Blocks k b seg WhileNotCy) h start w = leads_then (leads_repeated k b seg WhileNotCy start w) λ _. q_pure
leads_operation (Ports i) h start w = leads_then (leads_ports i w) λ _. q_pure
leads_operation (Controls i) h start w = l_quiet ((of_operation (Controls i) h start).quiet refl)
leads_operation (Modes i) h start w = l_quiet ((of_operation (Modes i) h start).quiet refl)
leads_operation (Cards i) h start w = leads_then (leads_card i w) λ _. q_pure

-- PC is no part of an access
pub other_register : (f : List ℕ) (x n : ℕ) → n ≢ PC → file_of (written f PC x) n ≡ file_of f n
other_register f x n h = go (ltb n PSW)
  where
    go : (t : Bool) → pick t (get_or (set f PC x) n 0) 0 ≡ pick t (get_or f n 0) 0
    go true = get_or-set_other f PC n x 0 h
    go false = refl

module _ (w : World) (x : ℕ) where
  -- the instruction has begun: the step is counted, and PC is past it
  abbrev pub begun : World
  begun = with_state w (with_file w.state (written w.state.file PC x))

  same_dw : reg begun DW ≡ reg w DW
  same_dw = other_register w.state.file x DW (λ e. omega arith)

  same_read : (b : Bool) → read_reg b (reg begun) AW ≡ read_reg b (reg w) AW
  unfolding read_reg
  same_read true = other_register w.state.file x AW (λ e. omega arith)
  same_read false = rw (other_register w.state.file x AW (λ e. omega arith))

  same_segment : (seg : ℕ) → reg begun (segment seg) ≡ reg w (segment seg)
  same_segment seg = other_register w.state.file x (segment seg) (λ e. omega arith)

  same_io : (i : Io) → of_io begun i ≡ of_io w i
  same_io (In b InDw) = ap (taken_by w b) same_dw
  same_io (In b (Numbered n)) = refl
  same_io (Out b InDw) = rw (same_dw, same_read b)
  same_io (Out b (Numbered n)) = rw (same_read b)

  same_primitive : (k : Primitive) (b : Bool) (seg : ℕ) → of_primitive begun k b seg ≡ of_primitive w k b seg
  same_primitive Movbk b seg = refl
  same_primitive Cmpbk b seg = refl
  same_primitive Cmpm b seg = refl
  same_primitive Ldm b seg = refl
  same_primitive Stm b seg = refl
  same_primitive Inm b seg = ap (taken_by w b) same_dw
  same_primitive Outm b seg = rw (same_dw, same_segment seg, other_register w.state.file x IX (λ e. omega arith))

  same_card : (i : Card) → of_card begun i ≡ of_card w i
  same_card (cards.Transfers i) = refl
  same_card (cards.Ports i) = same_io i
  same_card (cards.Controls i) = refl
  same_card (cards.Points i) = refl
  same_card (cards.Calculates i) = refl
  same_card (cards.Branches i) = refl
  same_card (cards.Stacks i) = refl
  same_card (cards.Modes i) = refl

  same_access : (i : Instr) → access_of begun i ≡ access_of w i
  same_access (Computes i) = refl
  same_access (Moves i) = refl
  same_access (Multiplies i) = refl
  same_access (Interrupts i) = refl
  same_access (Blocks k b seg q) = rw (other_register w.state.file x CW (λ e. omega arith), same_primitive k b seg)
  same_access (Ports i) = same_io i
  same_access (Controls i) = refl
  same_access (Modes i) = refl
  same_access (Cards i) = same_card i

-- nor is the count
io_starting : (j : Instr) (w : World) (i : Io) → of_io (starting j w) i ≡ of_io w i
unfolding starting
io_starting j w (In b InDw) = refl
io_starting j w (In b (Numbered n)) = refl
io_starting j w (Out b InDw) = refl
io_starting j w (Out b (Numbered n)) = refl

primitive_starting : (j : Instr) (w : World) (k : Primitive) (b : Bool) (seg : ℕ) → of_primitive (starting j w) k b seg ≡ of_primitive w k b seg
unfolding starting
primitive_starting j w Movbk b seg = refl
primitive_starting j w Cmpbk b seg = refl
primitive_starting j w Cmpm b seg = refl
primitive_starting j w Ldm b seg = refl
primitive_starting j w Stm b seg = refl
primitive_starting j w Inm b seg = refl
primitive_starting j w Outm b seg = refl

card_starting : (j : Instr) (w : World) (i : Card) → of_card (starting j w) i ≡ of_card w i
unfolding starting
card_starting j w (cards.Transfers i) = refl
card_starting j w (cards.Ports i) = io_starting j w i
card_starting j w (cards.Controls i) = refl
card_starting j w (cards.Points i) = refl
card_starting j w (cards.Calculates i) = refl
card_starting j w (cards.Branches i) = refl
card_starting j w (cards.Stacks i) = refl
card_starting j w (cards.Modes i) = refl

access_starting : (w : World) (i : Instr) → access_of (starting i w) i ≡ access_of w i
unfolding starting
access_starting w (Computes i) = refl
access_starting w (Moves i) = refl
access_starting w (Multiplies i) = refl
access_starting w (Interrupts i) = refl
access_starting w (Blocks k b seg q) = ap (pick (repeats q && eqb (reg w CW) 0) none) (primitive_starting (Blocks k b seg q) w k b seg)
access_starting w (Ports i) = io_starting (Ports i) w i
access_starting w (Controls i) = refl
access_starting w (Modes i) = refl
access_starting w (Cards i) = card_starting (Cards i) w i

leads_stepping : (i : Instr) → Fine i → (n : ℕ) (w : World) → Leads (stepping i n) w (access_of w i)
unfolding stepping execute ◌>>=◌
leads_stepping i h n w =
    let x = add16 (reg w PC) n in
    l_ask (l_get (l_put (subst (Leads _ (begun w x)) (same_access w x i) (leads_then (leads_operation i h (reg w PC) (begun w x)) λ trapped. (of_single_step _).quiet refl))))

-- ---- what comes of them

pub not_so : (b : Bool) → not b ≡ true → b ≡ false
not_so true e = sym e
not_so false e = refl

-- what passes the checks, as a record
pub passes : (w : World) → fits w ≡ true → sound w ≡ true → Passes w
unfolding fits sound
passes w f e =
    let (psw, e₁) = (and-eq-true_iff (psw_good w.state) _).0 e in
    let (a, md) = (and-eq-true_iff (fixed_of (psw_of w.state)) _).0 psw in
    let (g, m) = (and-eq-true_iff (places_good w.state w.tape w.log) _).0 e₁ in
    let (b, e₂) = (and-eq-true_iff (leb w.state.progress.tape (length w.tape)) _).0 g in
    let (c, d) = (and-eq-true_iff (leb w.state.progress.log (length w.log)) _).0 e₂ in
    record { fit = leb-true _ _ f; fixed = a; mode_in = md; tape_in = leb-true _ _ b; log_in = leb-true _ _ c; count_in = leb-true _ _ d; marks_in = not_so _ m }

-- records of an access, from places and lengths of tape and log, and the gap that is due
pub data Comes (due : Use) (tape tapes log logs gap : ℕ) {A : Type 0} : Outcome A → Type 0 where
  tape_short : {n : ℕ} {t : List Event} → n ≡ 5 → tapes < tape + tape_need due → Comes due tape tapes log logs gap (refused n t)
  log_short : {n : ℕ} {t : List Event} → n ≡ 6 → tape + tape_need due ≤ tapes → logs < log + log_need gap due → Comes due tape tapes log logs gap (refused n t)
  goes : {a : A} {v : World} {t : List Event} → tape + tape_need due ≤ tapes → log + log_need gap due ≤ logs → ((n : ℕ) → rows_of n t ≡ rows_of_use n due)
      → Comes due tape tapes log logs gap (done a v t)

abbrev pub ComesIn : {A : Type 0} → World → Use → Outcome A → Type 0
ComesIn w due o =
    Comes due w.state.progress.tape (length w.tape) w.state.progress.log (length w.log) w.state.progress.count o

comes_then : {A : Type 0} {due : Use} {tape tapes log logs gap : ℕ} (e : Event) {o : Outcome A} → ((n : ℕ) (t : List Event) → rows_of n (e ∷ t) ≡ rows_of n t)
    → Comes due tape tapes log logs gap o → Comes due tape tapes log logs gap (then e o)
comes_then e h (tape_short i s) = tape_short i s
comes_then e h (log_short i r s) = log_short i r s
comes_then e h (goes {t = t} r s g) = goes r s λ n. h n t ∙ g n

silent_comes : {A : Type 0} (w : World) {o : Outcome A} → w.state.progress.tape ≤ length w.tape → w.state.progress.log ≤ length w.log → Silent o → ComesIn w none o
silent_comes w i j (silent g) = goes (rw add-zero i) (rw add-zero j) g

-- the events of an access that went through
data Recorded (due : Use) {A : Type 0} : Outcome A → Type 0 where
  recorded_so : {a : A} {v : World} {t : List Event} → ((n : ℕ) → rows_of n t ≡ rows_of_use n due) → Recorded due (done a v t)

taken_recorded : {A : Type 0} {o : Outcome A} (b : Bool) (port v : ℕ) → Silent o → Recorded (access false b port v) (then (takes b port v) o)
unfolding rows_of
taken_recorded b port v (silent {t = t} g) = recorded_so {t = takes b port v ∷ t} λ n. rw (g 0)

given_recorded : {A : Type 0} {o : Outcome A} (b : Bool) (port v : ℕ) → Silent o → Recorded (access true b port v) (then (gives b port v) o)
unfolding rows_of
given_recorded b port v (silent {t = t} g) = recorded_so {t = gives b port v ∷ t} λ n. rw (g 0)

recorded_goes : {A : Type 0} {due : Use} {tape tapes log logs gap : ℕ} {o : Outcome A} → tape + tape_need due ≤ tapes → log + log_need gap due ≤ logs → Recorded due o
    → Comes due tape tapes log logs gap o
recorded_goes i j (recorded_so g) = goes i j g

recording_comes : {A : Type 0} (w : World) (out b : Bool) (port v m : ℕ) (f : ℕ → World → Outcome A)
    → w.state.progress.tape + tape_need (access out b port v) ≤ length w.tape → ((x : World) → Recorded (access out b port v) (f v x))
    → ComesIn w (access out b port v) (ported (recording w v m (record_bytes rule w.state.progress.count (key_of out b port) v)) f)
unfolding recording
recording_comes w out b port v m f i h = go (leb (w.state.progress.log + length r) (length w.log)) refl
  where
    r : List ℕ
    r = record_bytes rule w.state.progress.count (key_of out b port) v

    go : (t : Bool) → leb (w.state.progress.log + length r) (length w.log) ≡ t
        → ComesIn w (access out b port v) (ported (pick t (through v (world (recorded w.state m (length r)) w.ram w.rom w.tape (write_log w.log w.state.progress.log r))) (short 6)) f)
    go true e = recorded_goes i (leb-true _ _ e) (h _)
    go false e = log_short refl i (leb-false _ _ e)

input_comes : {A : Type 0} (w : World) (b : Bool) (port : ℕ) (f : ℕ → World → Outcome A)
    → ((v : ℕ) (x : World) → Recorded (access false b port v) (f v x)) → ComesIn w (taken_by w b port) (ported (inputs b port w) f)
unfolding inputs
input_comes w b port f h = go (leb (w.state.progress.tape + bytes_of b) (length w.tape)) refl
  where
    v : ℕ
    v = taped b w.tape w.state.progress.tape

    go : (t : Bool) → leb (w.state.progress.tape + bytes_of b) (length w.tape) ≡ t
        → ComesIn w (taken_by w b port) (ported (pick t (recording w v (bytes_of b) (record_bytes rule w.state.progress.count (key_of false b port) v)) (short 5)) f)
    go true e = recording_comes w false b port v (bytes_of b) f (leb-true _ _ e) (λ x. h v x)
    go false e = tape_short refl (leb-false _ _ e)

output_comes : {A : Type 0} (w : World) (b : Bool) (port v : ℕ) (f : ℕ → World → Outcome A) → w.state.progress.tape ≤ length w.tape
    → ((x : World) → Recorded (access true b port v) (f v x)) → ComesIn w (access true b port v) (ported (outputs b port v w) f)
unfolding outputs
output_comes w b port v f i h = recording_comes w true b port v 0 f (rw add-zero i) h

leads_come : {A : Type 0} {p : Act A} {w : World} {due : Use} → Leads p w due → (u : ℕ → Choice)
    → w.state.progress.tape ≤ length w.tape → w.state.progress.log ≤ length w.log → ComesIn w due (run_by u p w)
unfolding run_by rows_of
leads_come {p = p} {w = w} (l_quiet q) u i j = silent_comes w i j (quiet_silent p q u w)
leads_come (l_get h) u i j = leads_come h u i j
leads_come (l_put h) u i j = leads_come h u i j
leads_come (l_ask {f = f} h) u i j = comes_then (asks f) (λ n t. refl) (leads_come h u i j)
leads_come (l_load {b = b} {g = g} {o = o} h) u i j = comes_then (reads b g o) (λ n t. refl) (leads_come h u i j)
leads_come {w = w} (l_input {b = b} {n = n} {k = k} h) u i j =
    input_comes w b n (λ v x. then (takes b n v) (run_by u (k v) x)) (λ v x. taken_recorded b n v (quiet_silent (k v) (h v) u x))
leads_come {w = w} (l_output {b = b} {n = n} {v = v} {p = p} q) u i j =
    output_comes w b n v (λ y x. then (gives b n v) (run_by u p x)) i (λ x. given_recorded b n v (quiet_silent p q u x))

-- the operation of an instruction that was read
pub stepping_comes : (w : World) → Passes w → (i : Instr) → Fine i → (n : ℕ) → ComesIn (starting i w) (access_of w i) (run_by kept (stepping i n) (starting i w))
unfolding starting
stepping_comes w s i h n =
    leads_come (subst (Leads (stepping i n) (starting i w)) (access_starting w i) (leads_stepping i h n (starting i w))) kept s.tape_in s.log_in

-- ---- a step

pub fine_read : {top : ℕ} {i : Instr} {n : ℕ} → ScannedTo top Fine (known i n) → Fine i
fine_read (read h) = h

rows_come : {due : Use} {tape tapes log logs gap : ℕ} {v : World} {t : List Event} → Comes due tape tapes log logs gap {A = Unit {0}} (done tt v t) → (n : ℕ) → rows_of n t ≡ rows_of_use n due
rows_come (goes i j g) = g

-- THE RECORD OF A STEP is that of the access that its instruction makes
pub step_rows : (w v : World) (t : List Event) → Holds w → (a : Stepped kept w v t) → (n : ℕ) → rows_of n t ≡ rows_of_use n (access_of w a.instr)
step_rows w v t b a =
    let f = fine_read (rw a.read at (reads_fine w b.ram b.rom)) in
    rows_come (rw a.ran at (stepping_comes w (passes w a.fit a.good) a.instr f a.size))
