-- Each number is given exactly when document 01's table says so: every call comes to a row whose condition holds, and to no other.
use Prim.Native.Nat.{ℕ, zero, suc, ◌+◌, ◌≤◌, ◌<◌}
use mathlib.Core.Path.{◌≡◌, refl, sym, ap, subst, ◌∙◌}
use mathlib.Core.Bool.{Bool, true, false, not, ◌&&◌, ◌||◌, and-eq-true_iff, true≢false}
use mathlib.Core.List.{List}
use Rattle.std.specs.Prelude.{Option, None, Some}
use native.Mathlib.Nat.{add-zero}
use native.Mathlib.Omega.{arith}
use lib.ListN.{length, drop, length-drop}
use lib.Dec.{leb}
use borrow.Author.Tests.{leb-true, leb-false, le-leb, lt-leb}
use Rattle.sheet.specs.declared.Instr.{Instr}
use Rattle.sheet.specs.declared.Prefixes.{Prefixes}
use Rattle.sheet.specs.declared.Found.{Found}
use Rattle.sheet.specs.declared.Found.TheVariants as found
use Rattle.sheet.specs.declared.Entry.{Entry}
use Rattle.sheet.specs.declared.Entry.TheVariants as entry
use Rattle.sheet.specs.Width.{pick}
use Rattle.sheet.specs.Psw.{IE, flag_of, native_of, fixed_of}
use Rattle.sheet.specs.Registers.{PS, PC, file_of}
use Rattle.sheet.specs.declared.GapRule.{GapRule}
use Rattle.sheet.specs.Log.{ceiling, rule, record_at, entry_of, read_log}
use Rattle.sheet.specs.World.{World, psw_of}
use Rattle.sheet.specs.Handler.{Outcome, refused, done, kept, run, run_by}
use Rattle.sheet.specs.Contract.{Seen, stops, seen}
use Rattle.sheet.specs.Reading as reading
use Rattle.sheet.specs.Reading.{Read, known, unknown, scan}
use Rattle.sheet.specs.Encoding.{Prefix, unprefixed, with_prefix, prefix_of, look_up}
use Rattle.sheet.specs.FirstByte.{first_bytes, after_prefix, prefixed, instruction}
use Rattle.sheet.specs.CardCodes.{card_instruction}
use Rattle.sheet.specs.Step.{fits, psw_good, places_good, sound, refusal, source, code_at, starting, stepping, decoded, awake, step_by, step, interrupting, interrupt_by, interrupt, instruction_in}
use Rattle.log_record.proofs.Records.{end_empty}
use Rattle.log_record.proofs.Whole.{end_read}
use Rattle.theorems.specs.Bounds.{Bytes}
use Rattle.theorems.specs.Rows.{Use}
use Rattle.theorems.specs.Access.{access_of, tape_need, log_need}
use Rattle.theorems.specs.Outcomes.{space, Unsound, fixed_bit, mode_unwritable, tape_place, log_place, count_over, marked_and_halted, Passes, IsPrefix, StepOf, too_large, unsound, asleep, fourth_prefix, no_instruction, short_tape, full_log, finished, InterruptOf, call_too_large, call_unsound, held, masked, taken, ReadOf, beyond, malformed, at_end, met}
use Rattle.theorems.proofs.Quiet.{Silent, silent, quiet_silent}
use Rattle.theorems.proofs.Widths.{byte_top}
use Rattle.theorems.proofs.BoundsReading.{Fine, ScannedTo, read, unread, scanned}
use Rattle.theorems.proofs.BoundsCodes.{of_code}
use Rattle.theorems.proofs.CardsRead.{fine_named, of_card_instruction}
use Rattle.theorems.proofs.BoundsStep.{of_interrupting, reads_fine, step_is}
use Rattle.theorems.proofs.PortOnce.{Comes, tape_short, log_short, goes, ComesIn, not_so, passes, stepping_comes, fine_read}

-- ---- the checks

-- the first that fails
data Checked (w : World) : Bool → Bool → Type 0 where
  over : {s : Bool} → space < length w.ram + length w.rom → Checked w false s
  wrong : length w.ram + length w.rom ≤ space → Unsound w → Checked w true false
  fine : Passes w → Checked w true true

neither : (a b : Bool) → (a || b) ≡ false → (a ≡ false) × (b ≡ false)
neither true b e = absurd (true≢false e)
neither false true e = absurd (true≢false e)
neither false false e = (refl, refl)

unsound_of : (w : World) → sound w ≡ false → Unsound w
unfolding sound
unsound_of w e = go (fixed_of (psw_of w.state)) (native_of (psw_of w.state) || w.state.marks.writable) (leb w.state.progress.tape (length w.tape)) (leb w.state.progress.log (length w.log)) (leb w.state.progress.count (ceiling rule)) (w.state.marks.halted && w.state.marks.loaded) refl refl refl refl refl refl e
  where
    go : (a n b c d m : Bool) → fixed_of (psw_of w.state) ≡ a → (native_of (psw_of w.state) || w.state.marks.writable) ≡ n → leb w.state.progress.tape (length w.tape) ≡ b → leb w.state.progress.log (length w.log) ≡ c
        → leb w.state.progress.count (ceiling rule) ≡ d → (w.state.marks.halted && w.state.marks.loaded) ≡ m → ((a && n) && ((b && (c && d)) && not m)) ≡ false → Unsound w
    go false n b c d m p i q r s x z = fixed_bit p
    go true false b c d m p i q r s x z = let (y, k) = neither (native_of (psw_of w.state)) w.state.marks.writable i in mode_unwritable y k
    go true true false c d m p i q r s x z = tape_place (leb-false _ _ q)
    go true true true false d m p i q r s x z = log_place (leb-false _ _ r)
    go true true true true false m p i q r s x z = count_over (leb-false _ _ s)
    go true true true true true true p i q r s x z = marked_and_halted x
    go true true true true true false p i q r s x z = absurd (let y : ◌≡◌ {A = ℕ} 0 1 = cc in omega arith)

checks : (w : World) → Checked w (fits w) (sound w)
unfolding fits
checks w = go (fits w) (sound w) refl refl
  where
    go : (f s : Bool) → fits w ≡ f → sound w ≡ s → Checked w f s
    go false s f g = over (leb-false _ _ f)
    go true false f g = wrong (leb-true _ _ f) (unsound_of w g)
    go true true f g = fine (passes w f g)

pub fits_not : (w : World) → space < length w.ram + length w.rom → fits w ≡ false
unfolding fits
fits_not w h = lt-leb _ _ h

pub fits_so : (w : World) → length w.ram + length w.rom ≤ space → fits w ≡ true
unfolding fits
fits_so w h = le-leb _ _ h

and_false : (a : Bool) → (a && false) ≡ false
and_false true = refl
and_false false = refl

pub sound_not : (w : World) → Unsound w → sound w ≡ false
unfolding sound
sound_not w (fixed_bit e) = rw e
sound_not w (mode_unwritable m y) =
    let n : (native_of (psw_of w.state) || w.state.marks.writable) ≡ false = rw (m, y) in
    rw (n, and_false (fixed_of (psw_of w.state)))
sound_not w (tape_place h) = rw (lt-leb w.state.progress.tape (length w.tape) h) (and_false (psw_good w.state))
sound_not w (log_place h) = rw (lt-leb w.state.progress.log (length w.log) h, and_false (leb w.state.progress.tape (length w.tape))) (and_false (psw_good w.state))
sound_not w (marked_and_halted h) = rw (h, and_false (places_good w.state w.tape w.log)) (and_false (psw_good w.state))
sound_not w (count_over h) = rw (lt-leb w.state.progress.count (ceiling rule) h, and_false (leb w.state.progress.log (length w.log)), and_false (leb w.state.progress.tape (length w.tape))) (and_false (psw_good w.state))

sound_so : (w : World) → Passes w → sound w ≡ true
unfolding sound
sound_so w p = rw (p.fixed, p.mode_in, le-leb _ _ p.tape_in, le-leb _ _ p.log_in, le-leb _ _ p.count_in, p.marks_in)

-- ---- prefixes

first_byte : (src : ℕ → ℕ) (i : ℕ) (x : Prefix) → prefix_of (src i) ≡ Some x → IsPrefix (src (i + 0))
first_byte src i x e = rw (add-zero i) (x, e)

-- the table refuses by 3 alone; a 4 is given for as many prefixes as there is room for, and one more
data Opened (room : ℕ) (src : ℕ → ℕ) (i : ℕ) : Read Instr → Type 0 where
  by_table : {r : Read Instr} → ScannedTo 3 Fine r → Opened room src i r
  by_prefix : {k n : ℕ} → k ≡ 4 → ((j : ℕ) → j < suc room → IsPrefix (src (i + j))) → Opened room src i (unknown k n)

one_more : {room i : ℕ} {src : ℕ → ℕ} {r : Read Instr} → IsPrefix (src (i + 0)) → Opened room src (i + 1) r → Opened (suc room) src i r
one_more p (by_table s) = by_table s
one_more {room} {i} {src} p (by_prefix z h) = by_prefix z go
  where
    go : (j : ℕ) → j < suc (suc room) → IsPrefix (src (i + j))
    go zero l = p
    go (suc j) l = let z : i + 1 + j ≡ i + suc j = omega arith in subst (λ k. IsPrefix (src k)) z (h j (omega arith))

only_one : (src : ℕ → ℕ) (i : ℕ) → IsPrefix (src (i + 0)) → (j : ℕ) → j < 1 → IsPrefix (src (i + j))
only_one src i h zero l = h
only_one src i h (suc j) l = absurd (omega arith)

opened : (room : ℕ) (p : Prefixes) (src : ℕ → ℕ) → ((j : ℕ) → src j ≤ 255) → (i : ℕ) → Opened room src i (scan (prefixed room p) src i)
unfolding scan prefixed after_prefix reading.◌>>=◌
opened zero p src h i = go (prefix_of (src i)) refl
  where
    go : (o : Option Prefix) → prefix_of (src i) ≡ o → Opened zero src i (scan (after_prefix o (λ q. reading.no 4) (look_up (first_bytes p) (src i))) src (i + 1))
    go None e = by_table (scanned (look_up (first_bytes p) (src i)) (of_code p (src i)) src h (i + 1))
    go (Some x) e = by_prefix refl (only_one src i (first_byte src i x e))
opened (suc room) p src h i = go (prefix_of (src i)) refl (λ q. opened room (with_prefix p q) src h (i + 1))
  where
    go : (o : Option Prefix) → prefix_of (src i) ≡ o → ((q : Prefix) → Opened room src (i + 1) (scan (prefixed room (with_prefix p q)) src (i + 1)))
        → Opened (suc room) src i (scan (after_prefix o (λ q. prefixed room (with_prefix p q)) (look_up (first_bytes p) (src i))) src (i + 1))
    go None e g = by_table (scanned (look_up (first_bytes p) (src i)) (of_code p (src i)) src h (i + 1))
    go (Some x) e g = one_more (first_byte src i x e) (g x)

fourth_met : (room : ℕ) (p : Prefixes) (src : ℕ → ℕ) (i : ℕ) → ((j : ℕ) → j < suc room → IsPrefix (src (i + j))) → (n : ℕ) × (scan (prefixed room p) src i ≡ unknown 4 n)
unfolding scan prefixed after_prefix reading.◌>>=◌
fourth_met zero p src i h =
    let (x, e) = rw (add-zero i) at (h 0 (omega arith)) in
    (i + 1, subst (λ (o : Option Prefix). scan (after_prefix o (λ q. reading.no 4) (look_up (first_bytes p) (src i))) src (i + 1) ≡ unknown 4 (i + 1)) (sym e) refl)
fourth_met (suc room) p src i h =
    let (x, e) = rw (add-zero i) at (h 0 (omega arith)) in
    let later : (j : ℕ) → j < suc room → IsPrefix (src (i + 1 + j)) = λ j l. (let z : i + suc j ≡ i + 1 + j = omega arith in subst (λ k. IsPrefix (src k)) z (h (suc j) (omega arith))) in
    let (n, q) = fourth_met room (with_prefix p x) src (i + 1) later in
    (n, subst (λ (o : Option Prefix). scan (after_prefix o (λ x. prefixed room (with_prefix p x)) (look_up (first_bytes p) (src i))) src (i + 1) ≡ unknown 4 n) (sym e) q)

-- in the 8080 mode no 4 is given
abbrev OpenedIn : Bool → (ℕ → ℕ) → Read Instr → Type 0
OpenedIn true src r = Opened 3 src 0 r
OpenedIn false src r = ScannedTo 3 Fine r

source_top : (w : World) → Bytes w.ram → Bytes w.rom → (j : ℕ) → source w j ≤ 255
source_top w h g j = byte_top w.ram w.rom h g (code_at (file_of w.state.file PS) (file_of w.state.file PC) j)

opened_all : (w : World) → Bytes w.ram → Bytes w.rom → OpenedIn (native_of (psw_of w.state)) (source w) (instruction_in w)
unfolding instruction_in instruction
opened_all w h g = go (native_of (psw_of w.state))
  where
    go : (md : Bool) → OpenedIn md (source w) (scan (pick md instruction card_instruction) (source w) 0)
    go true = opened 3 unprefixed (source w) (source_top w h g) 0
    go false = scanned card_instruction (of_card_instruction λ c n. fine_named n) (source w) (source_top w h g) 0

from_zero : (src : ℕ → ℕ) → ((j : ℕ) → j < 4 → IsPrefix (src j)) → (j : ℕ) → j < 4 → IsPrefix (src (0 + j))
from_zero src h j l = let z : j ≡ 0 + j = omega arith in subst (λ k. IsPrefix (src k)) z (h j l)

fourth_all : (w : World) → native_of (psw_of w.state) ≡ true → ((j : ℕ) → j < 4 → IsPrefix (source w j)) → (n : ℕ) × (instruction_in w ≡ unknown 4 n)
unfolding instruction_in instruction
fourth_all w m h = rw m (fourth_met 3 unprefixed (source w) 0 (from_zero (source w) h))

-- ---- a step is of a row

module _ (w : World) (p : Passes w) (up : w.state.marks.halted ≡ false) where
  -- by what the instruction's tree comes to
  executed : (i : Instr) (n : ℕ) → instruction_in w ≡ known i n → (o : Outcome Unit) → run_by kept (stepping i n) (starting i w) ≡ o
      → ComesIn (starting i w) (access_of w i) o → StepOf w (seen o)
  unfolding starting run
  executed i n r (refused k t) e (tape_short z h) = rw z (short_tape p up r h)
  executed i n r (refused k t) e (log_short z g h) = rw z (full_log p up r g h)
  executed i n r (done tt v t) e (goes g h q) = finished p up r g h e

  -- by what was read
  was_read : (r : Read Instr) → instruction_in w ≡ r → ScannedTo 4 Fine r → (md : Bool) → native_of (psw_of w.state) ≡ md → OpenedIn md (source w) r → StepOf w (seen (decoded kept r w))
  unfolding decoded
  was_read (known i n) e (read f) md q o = executed i n e (run_by kept (stepping i n) (starting i w)) refl (stepping_comes w p i f n)
  was_read (unknown k n) e (unread a b) false q (unread c d) = let z : k ≡ 3 = omega arith in rw z (no_instruction p up (rw z at e))
  was_read (unknown k n) e (unread a b) true q (by_table (unread c d)) = let z : k ≡ 3 = omega arith in rw z (no_instruction p up (rw z at e))
  was_read (unknown k n) e (unread a b) true q (by_prefix y h) =
      rw y (fourth_prefix p up q λ j l. (let z : 0 + j ≡ j = omega arith in subst (λ i. IsPrefix (source w i)) z (h j l)))

-- STEP: it comes to a row
pub step_is_of : (w : World) → Bytes w.ram → Bytes w.rom → StepOf w (seen (step w))
unfolding step step_by awake
step_is_of w h g = go (fits w) (sound w) w.state.marks.halted refl (checks w)
  where
    go : (f s a : Bool) → w.state.marks.halted ≡ a → Checked w f s
        → StepOf w (seen (pick f (pick s (pick a (refusal 8) (decoded kept (instruction_in w) w)) (refusal 2)) (refusal 1)))
    go false s a e (over l) = too_large l
    go true false a e (wrong l u) = unsound l u
    go true true true e (fine p) = asleep p e
    go true true false e (fine p) = was_read w p e (instruction_in w) refl (reads_fine w h g) (native_of (psw_of w.state)) refl (opened_all w h g)

-- ---- and of no other

stops_by_5 : {due : Use} {tape tapes log logs gap : ℕ} {o : Outcome Unit} → Comes due tape tapes log logs gap o → tapes < tape + tape_need due → seen o ≡ stops 5
stops_by_5 (tape_short z l) h = rw z
stops_by_5 (log_short z g l) h = absurd (omega arith)
stops_by_5 (goes g l q) h = absurd (omega arith)

stops_by_6 : {due : Use} {tape tapes log logs gap : ℕ} {o : Outcome Unit} → Comes due tape tapes log logs gap o → tape + tape_need due ≤ tapes → logs < log + log_need gap due → seen o ≡ stops 6
stops_by_6 (tape_short z l) g h = absurd (omega arith)
stops_by_6 (log_short z k l) g h = rw z
stops_by_6 (goes k l q) g h = absurd (omega arith)

module _ (w : World) (h : Bytes w.ram) (g : Bytes w.rom) where
  fine_of : {i : Instr} {n : ℕ} → instruction_in w ≡ known i n → Fine i
  fine_of r = fine_read (rw r at (reads_fine w h g))

  made : {i : Instr} {n : ℕ} → Passes w → w.state.marks.halted ≡ false → instruction_in w ≡ known i n → seen (step w) ≡ seen (run (stepping i n) (starting i w))
  made {i} {n} p e r = ap seen (step_is w i n (fits_so w p.fit, sound_so w p) e r)

  pub step_only : {s : Seen Unit} → StepOf w s → seen (step w) ≡ s
  unfolding step step_by awake decoded starting run
  step_only (too_large l) = rw (fits_not w l)
  step_only (unsound l u) = rw (fits_so w l, sound_not w u)
  step_only (asleep p e) = rw (fits_so w p.fit, sound_so w p, e)
  step_only (fourth_prefix p e m q) = rw (fits_so w p.fit, sound_so w p, (fourth_all w m q).1, e)
  step_only (no_instruction p e r) = rw (fits_so w p.fit, sound_so w p, r, e)
  step_only (short_tape {i = i} {n = n} p e r l) = made p e r ∙ stops_by_5 (stepping_comes w p i (fine_of r) n) l
  step_only (full_log {i = i} {n = n} p e r k l) = made p e r ∙ stops_by_6 (stepping_comes w p i (fine_of r) n) k l
  step_only (finished p e r k l q) = made p e r ∙ ap seen q

-- ---- an interrupt call

module _ (x : ℕ) (m : Bool) (w : World) where
  entered : Passes w → w.state.marks.loaded ≡ false → (m && not (flag_of (psw_of w.state) IE)) ≡ false → (o : Outcome Unit) → run_by kept (interrupting x) w ≡ o → Silent o → InterruptOf x m w (seen o)
  unfolding run
  entered p l e (done tt v t) q (silent s) = taken p l e q
  entered p l e (refused _ _) q x5 = elim x5 [ ]

  -- INTERRUPT
  pub interrupt_is_of : InterruptOf x m w (seen (interrupt x m w))
  unfolding interrupt interrupt_by
  interrupt_is_of = go (fits w) (sound w) w.state.marks.loaded (m && not (flag_of (psw_of w.state) IE)) refl refl (checks w)
    where
      go : (f s l a : Bool) → w.state.marks.loaded ≡ l → (m && not (flag_of (psw_of w.state) IE)) ≡ a → Checked w f s
          → InterruptOf x m w (seen (pick f (pick s (pick l (refusal 13) (pick a (refusal 7) (run_by kept (interrupting x) w))) (refusal 2)) (refusal 1)))
      go false s l a d e (over h) = call_too_large h
      go true false l a d e (wrong h u) = call_unsound h u
      go true true true a d e (fine p) = held p d
      go true true false true d e (fine p) =
          let (y, z) = (and-eq-true_iff m (not (flag_of (psw_of w.state) IE))).0 e in
          masked p d y (not_so (flag_of (psw_of w.state) IE) z)
      go true true false false d e (fine p) = entered p d e (run_by kept (interrupting x) w) refl (quiet_silent (interrupting x) ((of_interrupting x).quiet refl) kept w)

  pub interrupt_only : {s : Seen Unit} → InterruptOf x m w s → seen (interrupt x m w) ≡ s
  unfolding interrupt interrupt_by run
  interrupt_only (call_too_large l) = rw (fits_not w l)
  interrupt_only (call_unsound l u) = rw (fits_so w l, sound_not w u)
  interrupt_only (held p l) = rw (fits_so w p.fit, sound_so w p, l)
  interrupt_only (masked p l y z) = rw (fits_so w p.fit, sound_so w p, l, y, z)
  interrupt_only (taken p l e q) =
      let r : Outcome Unit = run_by kept (interrupting x) w in
      let first : seen (interrupt x m w) ≡ seen (pick w.state.marks.loaded (refusal 13) (pick (m && not (flag_of (psw_of w.state) IE)) (refusal 7) r)) = rw (fits_so w p.fit, sound_so w p) in
      first
      ∙ ap (λ (b : Bool). seen (pick b (refusal 13) (pick (m && not (flag_of (psw_of w.state) IE)) (refusal 7) r))) l
      ∙ ap (λ (b : Bool). seen (pick b (refusal 7) r)) e
      ∙ ap seen q

-- ---- the reading of a log

module _ (g : GapRule) (log : List ℕ) (at : ℕ) where
  pub read_is_of : ReadOf g log at (read_log g log at)
  unfolding read_log entry_of
  read_is_of = go (leb at (length log)) (record_at g (drop at log)) refl refl
    where
      go : (t : Bool) (f : Found) → leb at (length log) ≡ t → record_at g (drop at log) ≡ f → ReadOf g log at (pick t (entry_of at f) entry.Beyond)
      go false f e q = beyond (leb-false at (length log) e)
      go true (found.Record gap key value n) e q = met (leb-true at (length log) e) q
      go true found.Faulty e q = malformed (leb-true at (length log) e) q
      go true found.End e q =
          let l = leb-true at (length log) e in
          let z : at ≡ length log = omega (arith, end_empty g (drop at log) q, length-drop at log) in
          at_end z

  pub read_only : {e : Entry} → ReadOf g log at e → read_log g log at ≡ e
  unfolding read_log entry_of
  read_only (beyond l) = rw (lt-leb at (length log) l)
  read_only (malformed h q) = rw (le-leb at (length log) h, q)
  read_only (at_end e) = end_read g log at e
  read_only (met h q) = rw (le-leb at (length log) h, q)
