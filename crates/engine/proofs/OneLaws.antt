-- What each return of the code comes to, over plain values.
use Prim.Native.Nat.{ℕ}
use mathlib.Core.Bool.{Bool, not, ◌&&◌}
use mathlib.Core.List.{List}
use mathlib.Core.Path.{◌≡◌, refl, ◌∙◌}
use lib.ListN.{get_or, set}
use lib.Seq.{set-set, set-get_or}
use Rattle.sheet.specs.declared.Bus.{Bus}
use Rattle.sheet.specs.declared.Marks.{Marks}
use Rattle.sheet.specs.declared.Progress.{Progress}
use Rattle.sheet.specs.declared.Instr.{Instr}
use Rattle.sheet.specs.Width.{add16}
use Rattle.sheet.specs.Psw.{BRK, flag_of}
use Rattle.sheet.specs.Registers.{PC, PSW}
use Rattle.sheet.specs.World.{world, state_of, mark_loaded}
use Rattle.sheet.specs.Handler.{◌⊕◌}
use Rattle.sheet.specs.Execute.{operation, execute}
use Rattle.sheet.specs.Step.{loads_segment, starting, stepping}
use Rattle.sheet.specs.Contract.{Ends, Stops}
use Rattle.sheet.proofs.Rules.{seq, seq_stops, seq_then_stops, seq_flag, seq_registers, seq_set, ends_flag, ends_registers, ends_set}
use Rattle.mach_tally.specs.Sums.{Free}
use Rattle.mach_tally.proofs.Bounds.{within_free, within_both}
use Rattle.engine.specs.Performs.{Performs}
use Rattle.step_end.specs.Finishes.{begun_at}
use Rattle.engine.specs.Proceeds.{Settles, Proceeds}

-- ---- PC moved past the instruction

module _ (i : Instr) (size start next : ℕ) (f g ram ram' rom tape log log' : List ℕ) (m m' : Marks) (q q' : Progress) (number : ℕ) (trapped : Bool) (n : Bus)
    (a : start ≡ get_or f PC 0) (d : next ≡ add16 start size) (p : Performs (operation i start) (set f PC next) ram rom tape log m q number trapped m' g ram' log' q' n) where
  opened : Performs (operation i (get_or f PC 0)) (set f PC (add16 (get_or f PC 0) size)) ram rom tape log m q number trapped m' g ram' log' q' n
  opened = rw (← a, ← d) p

  ends : number ≡ 0 → Ends Bool (execute i size) (world (state_of f m q) ram rom tape log) trapped (world (state_of g m' q') ram' rom tape log') n
  unfolding execute
  ends z = seq_registers _ (seq_set PC (add16 (get_or f PC 0) size) _ (opened.done z))

  stops : (number ≡ 0 → ⊥) → Stops Bool (execute i size) (world (state_of f m q) ram rom tape log) number
  unfolding execute
  stops z = seq_then_stops _ ends_registers (seq_then_stops _ (ends_set PC (add16 (get_or f PC 0) size)) (opened.stop z))

  pub launches_done : number ≡ 0 → Performs (execute i size) f ram rom tape log m q number trapped m' g ram' log' q' n
  launches_done z = record { most = p.most; done = ends; stop = λ y. absurd (y z); same = λ y. absurd (y z) }

  -- PC back, the registers are as before
  pub launches_stop : (number ≡ 0 → ⊥) → Performs (execute i size) f ram rom tape log m q number trapped m' (set g PC start) ram' log' q' n
  launches_stop z =
      let back : set g PC start ≡ f = rw ((p.same z).0, a) (set-set f PC next (get_or f PC 0) ∙ set-get_or f PC 0) in
      record { most = p.most; done = λ y. absurd (z y); stop = stops; same = λ y. (back, (p.same z).1, (p.same z).2, (p.same z).3) }

-- ---- the instruction and its trap

begun_at_lem : (i : Instr) (f ram rom tape log : List ℕ) (m : Marks) (q : Progress)
    → starting i (world (state_of f m q) ram rom tape log) ≡ world (state_of f (mark_loaded m (loads_segment i)) (begun_at q)) ram rom tape log
unfolding starting
begun_at_lem i f ram rom tape log m q = refl

module _ (i : Instr) (size : ℕ) (f g ram ram' rom tape log log' : List ℕ) (m k m' : Marks) (q b q' : Progress) (number : ℕ) (traced trapped : Bool) (n : Bus)
    (e : traced ≡ (flag_of (get_or f PSW 0) BRK && not k.loaded)) (d : k ≡ mark_loaded m (loads_segment i)) (u : b ≡ begun_at q)
    (p : Performs (execute i size) f ram rom tape log k b number trapped m' g ram' log' q' n) where
  executed : Performs (execute i size) f ram rom tape log (mark_loaded m (loads_segment i)) (begun_at q) number trapped m' g ram' log' q' n
  executed = rw (← u, ← d) p

  stops_short : (number ≡ 0 → ⊥) → Stops Unit (stepping i size) (world (state_of f (mark_loaded m (loads_segment i)) (begun_at q)) ram rom tape log) number
  unfolding stepping
  stops_short z = seq_then_stops _ (ends_flag BRK) (seq_stops _ (executed.stop z))

  pub proceeds_stop : (c : Bus) → (number ≡ 0 → ⊥) → Free c → Proceeds i size f ram rom tape log m q number m q g ram' log' c
  proceeds_stop c z y = record {
    most = within_free y;
    done = λ x. absurd (z x);
    stop = λ x. rw (begun_at_lem i f ram rom tape log m q) (stops_short z);
    same = λ x. ((p.same z).0, (p.same z).1, (p.same z).2, refl, refl, y.is);
  }

  module _ (r : ℕ) (m'' : Marks) (q'' : Progress) (h ram'' : List ℕ) (c : Bus) (s : Settles (traced && not trapped) m' q' n g ram' rom r m'' q'' h ram'' c) where
    last : Settles ((flag_of (get_or f PSW 0) BRK && not (loads_segment i)) && not trapped) m' q' n g ram' rom r m'' q'' h ram'' c
    last = rw (e, d) at s

    steps : number ≡ 0 → Ends Unit (stepping i size) (world (state_of f (mark_loaded m (loads_segment i)) (begun_at q)) ram rom tape log) tt (world (state_of h m'' q') ram'' rom tape log') (n ⊕ last.last)
    unfolding stepping
    steps z = seq_flag BRK _ (seq _ (executed.done z) (last.finish.at q' tape log'))

    pub proceeds_done : number ≡ 0 → Proceeds i size f ram rom tape log m q r m'' q'' h ram'' log' c
    proceeds_done z = record {
      most = rw last.sum.is (within_both p.most last.finish.most);
      done = λ y. rw (last.places, last.sum.is, begun_at_lem i f ram rom tape log m q) (steps z);
      stop = λ y. absurd (y last.zero);
      same = λ y. absurd (y last.zero);
    }
