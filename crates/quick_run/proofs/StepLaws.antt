-- What each return of the code comes to, over plain values.
use Prim.Native.Nat.{ℕ, zero, suc, ◌/◌, ◌%◌}
use mathlib.Core.Path.{◌≡◌, refl, sym, ◌∙◌}
use mathlib.Core.Bool.{Bool, true, false, not, ◌||◌, true≢false}
use mathlib.Core.List.{List, [], ◌∷◌}
use native.Mathlib.Omega.{arith}
use lib.Dec.{lit≤}
use lib.ListN.{get_or, set}
use borrow.Author.Tests.{ne_eqb}
use Rattle.sheet.specs.declared.Bus.{Bus}
use Rattle.sheet.specs.declared.Instr.{Instr}
use Rattle.sheet.specs.declared.Instr.TheVariants.{Controls}
use Rattle.sheet.specs.declared.Control.TheVariants.{Nop}
use Rattle.sheet.specs.declared.Marks.{Marks}
use Rattle.sheet.specs.declared.Progress.{Progress}
use Rattle.sheet.specs.declared.State.{State}
use Rattle.sheet.specs.Width.{add16}
use Rattle.sheet.specs.Psw.{BRK, flag_of, native_of}
use Rattle.sheet.specs.Registers.{PS, PC, PSW}
use Rattle.sheet.specs.World.{state_of, marks_of}
use Rattle.sheet.specs.Handler.{nothing}
use Rattle.sheet.specs.Transfer.{mov_in}
use Rattle.sheet.specs.Stack.{pop_in}
use Rattle.sheet.specs.FirstByte.{instruction}
use Rattle.sheet.specs.Execute.{operation, execute}
use Rattle.sheet.specs.Step.{code_byte, moves_in, loads_segment}
use Rattle.sheet.proofs.Rules.{no_last}
use Rattle.mach_tally.proofs.Bounds.{within_memory}
use Rattle.mach_ports.specs.Accesses.{OnPorts}
use Rattle.code_answer.specs.Answer.{known_as, Decodes}
use Rattle.engine.specs.Performs.{Performs}
use Rattle.step_end.specs.Finishes.{begun_at}
use Rattle.engine.proofs.ExecuteLaws.{ported_is}
use Rattle.step_end.proofs.Laws.{finishes_untraced}
use Rattle.engine.proofs.OneLaws.{launches_done, launches_stop, proceeds_done, proceeds_stop}
use Rattle.step_answer.specs.Steps.{Advances}
use Rattle.engine.proofs.Laws.{advances_known}
use Rattle.quick_perform.specs.Tries.{Tries}
use Rattle.quick_place.specs.Packed.{kind_of, size_of}
use Rattle.quick_pack.specs.Readings.{readings_0, readings_16, readings_32, readings_48, at_port, groups, instr_of}
use Rattle.quick_reading.specs.Readings.{Means, general, quick}
use Rattle.quick_window.specs.Spelled.{Spells}
use Rattle.quick_window.proofs.Laws.{code_decodes}
use Rattle.quick_port.specs.Trees.{port_tree}
use Rattle.quick_port.proofs.Laws.{port_does}
use Rattle.quick_run.specs.Ready.{Ready}

-- ---- the reading

pub not_ready : (s : State) (ram rom : List ℕ) (r : ℕ) → r ≡ 0 → Ready s ram rom r
not_ready s ram rom r e = record { awake = λ z. absurd (z e); closed = λ z. absurd (z e); native = λ z. absurd (z e); untraced = λ z. absurd (z e); reads = λ z. absurd (z e) }

neither : (a b : Bool) → (a || b) ≡ false → (a ≡ false) × (b ≡ false)
neither false false e = (refl, refl)
neither false true e = absurd (true≢false e)
neither true b e = absurd (true≢false e)

negated : (b : Bool) → not b ≡ false → b ≡ true
negated true e = refl
negated false e = absurd (true≢false e)

pub ready : (s : State) (ram rom : List ℕ) (t n : Bool) (ps pc w r : ℕ) → (s.marks.halted || s.marks.writable) ≡ false → t ≡ flag_of (get_or s.file PSW 0) BRK → n ≡ native_of (get_or s.file PSW 0) → (t || not n) ≡ false → ps ≡ get_or s.file PS 0 → pc ≡ get_or s.file PC 0
    → Spells (code_byte ram rom ps pc) 0 8 w → Means w r → Ready s ram rom r
ready s ram rom t n ps pc w r h e m k x y p (general z) = not_ready s ram rom r z
ready s ram rom t n ps pc w r h e m k x y p (quick l d) =
    let (a, b) = neither t (not n) k in
    let (u, v) = neither s.marks.halted s.marks.writable h in
    record { awake = λ z. u; closed = λ z. v; native = λ z. sym m ∙ negated n b; untraced = λ z. sym e ∙ a; reads = λ z. code_decodes w _ (instr_of r) (size_of r) (rw (x, y) at p) l d }

-- ---- a reading done is a step

-- readings load no segment register
data Plain : List Instr → Type 0 where
  none : Plain []
  more : {i : Instr} {is : List Instr} → loads_segment i ≡ false → Plain is → Plain (i ∷ is)

each_0 : (r : ℕ) → Plain (readings_0 r)
unfolding readings_0 loads_segment moves_in mov_in pop_in
each_0 r = more refl (more refl (more refl (more refl (more refl (more refl (more refl (more refl (more refl (more refl (more refl (more refl (more refl none))))))))))))

each_16 : (r : ℕ) → Plain (readings_16 r)
unfolding readings_16 loads_segment moves_in mov_in
each_16 r = more refl (more refl (more refl (more refl (more refl (more refl (more refl (more refl (more refl (more refl (more refl (more refl (more refl (more refl none)))))))))))))

each_32 : (r : ℕ) → Plain (readings_32 r)
unfolding readings_32 loads_segment moves_in mov_in
each_32 r = more refl (more refl (more refl (more refl (more refl (more refl (more refl (more refl (more refl (more refl (more refl (more refl (more refl none))))))))))))

each_48 : (r : ℕ) → Plain (readings_48 r)
unfolding readings_48 loads_segment
each_48 r = more refl (more refl (more refl none))

plain_at : {is : List Instr} → Plain is → (k : ℕ) → loads_segment (get_or is k (Controls Nop)) ≡ false
unfolding loads_segment
plain_at none zero = refl
plain_at none (suc k) = refl
plain_at (more e d) zero = e
plain_at (more e d) (suc k) = plain_at d k

in_group : (r k : ℕ) → Plain (get_or (groups r) k [])
in_group r zero = each_0 r
in_group r (suc zero) = each_16 r
in_group r (suc (suc zero)) = each_32 r
in_group r (suc (suc (suc zero))) = each_48 r
in_group r (suc (suc (suc (suc zero)))) = none
in_group r (suc (suc (suc (suc (suc k))))) = none

loads_none : (r : ℕ) → loads_segment (instr_of r) ≡ false
unfolding instr_of
loads_none r = plain_at (in_group r (kind_of r / 16)) (kind_of r % 16)

abbrev clear : Marks
clear = marks_of false false false

module _ (i : Instr) (size : ℕ) (f ram rom tape log : List ℕ) (m : Marks) (q : Progress) (awake : m.halted ≡ false) (closed : m.writable ≡ false) (plain : loads_segment i ≡ false) (untraced : flag_of (get_or f PSW 0) BRK ≡ false)
    (native : native_of (get_or f PSW 0) ≡ true) (d : Decodes instruction (code_byte ram rom (get_or f PS 0) (get_or f PC 0)) 0 (known_as i size)) where
  -- done
  performed : (trapped : Bool) (g ram' log' : List ℕ) (q' : Progress) (n : Bus) (number : ℕ) → number ≡ 0
      → Performs (execute i size) f ram rom tape log clear (begun_at q) number trapped clear g ram' log' q' n
      → Advances (state_of f m q) ram rom tape log true 0 (state_of g clear q') ram' log' n
  performed trapped g ram' log' q' n number z p =
      advances_known f m q ram rom tape log awake i size 0 clear q' g ram' log' n (record { is = rw native d })
      (proceeds_done i size f g ram ram' rom tape log log' m clear clear q (begun_at q) q' number false trapped n (rw untraced) (rw (awake, plain, closed)) refl p
      0 clear q' g ram' n
      (record { zero = refl; places = refl; last = nothing; sum = record { is = sym (no_last n); cycles = omega arith; dropped = omega arith }; finish = finishes_untraced false clear g ram' rom nothing refl (record { is = refl }) })
      z)

  -- refused
  refused : (g ram' log' : List ℕ) (q' : Progress) (n : Bus) (number : ℕ) → (number ≡ 0 → ⊥)
      → Performs (execute i size) f ram rom tape log clear (begun_at q) number false clear g ram' log' q' n
      → Advances (state_of f m q) ram rom tape log false number (state_of g m q) ram' log' nothing
  refused g ram' log' q' n number z p =
      rw (ne_eqb number 0 z) at
      (advances_known f m q ram rom tape log awake i size number m q g ram' log' nothing (record { is = rw native d })
      (proceeds_stop i size f g ram ram' rom tape log log' m clear clear q (begun_at q) q' number false false n (rw untraced) (rw (awake, plain, closed)) refl p
      nothing z (record { is = refl })))

pub turns_quick : (s s' : State) (g ram ram' rom tape log : List ℕ) (r : ℕ) (n : Bus) (q : Progress) → Ready s ram rom r → (r ≡ 0 → ⊥) → Tries (execute (instr_of r) (size_of r)) s.file ram rom g ram' n 1020
    → q ≡ begun_at s.progress → s' ≡ state_of g clear q → Advances s ram rom tape log true 0 s' ram' log n
turns_quick s s' g ram ram' rom tape log r n q y z o b e =
    rw (e, b)
    (performed (instr_of r) (size_of r) s.file ram rom tape log s.marks s.progress (y.awake z) (y.closed z) (loads_none r) (y.untraced z) (y.native z) (y.reads z) o.trapped g ram' log (begun_at s.progress) n 0 refl
    (record { most = within_memory o.does; done = λ u. o.does.at (state_of s.file clear (begun_at s.progress)) tape log; stop = λ u. absurd (u refl); same = λ u. absurd (u refl) }))

-- ---- a reading at a port

module _ (s : State) (g ram ram' rom tape log log' : List ℕ) (r size start next number : ℕ) (b q : Progress) (n : Bus) (y : Ready s ram rom r) (z : r ≡ 0 → ⊥) (k : at_port r ≡ true) (c : b ≡ begun_at s.progress) (a : start ≡ get_or s.file PC 0)
    (w : size ≡ size_of r) (d : next ≡ add16 start size) (o : OnPorts (port_tree r start) (set s.file PC next) ram rom tape log b number g ram' log' q n 4) where
  moved : next ≡ add16 start (size_of r)
  moved = rw w at d

  operates : Performs (operation (instr_of r) start) (set s.file PC next) ram rom tape log clear (begun_at s.progress) number false clear g ram' log' q n
  operates = rw (port_does r start k, ← c) (ported_is (port_tree r start) (set s.file PC next) g ram ram' rom tape log clear b log' q number n 4 (lit≤ tt) o)

  -- a refusal, with PC put back
  pub turns_refused : (h : List ℕ) → (number ≡ 0 → ⊥) → h ≡ set g PC start → Advances s ram rom tape log false number (state_of h s.marks s.progress) ram' log' nothing
  turns_refused h l e =
      rw e
      (refused (instr_of r) (size_of r) s.file ram rom tape log s.marks s.progress (y.awake z) (y.closed z) (loads_none r) (y.untraced z) (y.native z) (y.reads z) (set g PC start) ram' log' q n number l
      (launches_stop (instr_of r) (size_of r) start next s.file g ram ram' rom tape log log' clear clear (begun_at s.progress) q number false n a moved operates l))

  pub turns_reached : (s' : State) → number ≡ 0 → s' ≡ state_of g clear q → Advances s ram rom tape log true 0 s' ram' log' n
  turns_reached s' l e =
      rw e
      (performed (instr_of r) (size_of r) s.file ram rom tape log s.marks s.progress (y.awake z) (y.closed z) (loads_none r) (y.untraced z) (y.native z) (y.reads z) false g ram' log' q n number l
      (launches_done (instr_of r) (size_of r) start next s.file g ram ram' rom tape log log' clear clear (begun_at s.progress) q number false n a moved operates l))

-- what a test of a reading says
pub tested : (r : ℕ) (x y : Bool) → x ≡ at_port r → x ≡ y → at_port r ≡ y
tested r x y e h = sym e ∙ h
