-- RETEM after BRKEM: PS, PC and PSW are as they were, where the code between kept the native stack.
use Prim.Native.Nat.{ℕ, ◌+◌, ◌*◌, ◌/◌, ◌%◌, ◌≤◌, ◌<◌}
use mathlib.Core.Path.{◌≡◌, refl, sym, ap, subst, ◌∙◌}
use mathlib.Core.Bool.{true, false}
use mathlib.Core.List.{List}
use mathlib.Core.Logic.{◌≢◌}
use native.Mathlib.Omega.{arith}
use lib.ListN.{length, get_or, set, length-set}
use lib.Seq.{get_or-set_same, get_or-set_other}
use lib.Dec.{lit<}
use borrow.Author.Tests.{lt-ltb}
use Rattle.sheet.specs.declared.Marks.{Marks}
use Rattle.sheet.specs.declared.Progress.{Progress}
use Rattle.sheet.specs.Width.{wrap_of, add16, sub16}
use Rattle.sheet.specs.Psw.{keeps, flag_of, native_of, fixed_of, restored, settled, in_mode}
use Rattle.sheet.specs.Registers.{SP, PS, SS, PC, PSW}
use Rattle.sheet.specs.Memory.{physical, next, byte_at, read_mem, write_mem}
use Rattle.sheet.specs.World.{World, world, state_of, psw_of, crossed}
use Rattle.sheet.specs.Act.{◌>>=◌}
use Rattle.sheet.specs.Handler.{Event, done, run_by, run}
use Rattle.sheet.specs.Traps.{push, pop, push_psw, push_ps_pc, jump_far, save, vectored}
use Rattle.sheet.specs.Mode.{pop_return, retem, brkem}
use Rattle.sheet.proofs.PswLaws.{flag_pack, flag_settled, fixed_mode, native_mode, same_psw}
use Rattle.sheet.proofs.Lent.{write_mem_length}
use Rattle.theorems.specs.Repeat.{left, reg}
use Rattle.theorems.specs.Modes.{pushed_bytes, Breaking, stacked, SameStack, GivenBack}
use Rattle.theorems.proofs.RepeatFile.{fourteen}

-- ---- what BRKEM leaves

abbrev top : World → ℕ → ℕ
top w n = sub16 (reg w SP) n

record Saved (w u : World) : Type 0 where
  ss : reg u SS ≡ reg w SS
  sp : reg u SP ≡ sub16 (sub16 (top w 2) 2) 2
  rom : u.rom ≡ w.rom
  ram : u.ram
      ≡ write_mem true (write_mem true (write_mem true w.ram (reg w SS) (top w 2) (wrap_of true (psw_of w.state))) (reg w SS) (sub16 (top w 2) 2) (reg w PS)) (reg w SS) (sub16 (sub16 (top w 2) 2) 2) (reg w PC)

module _ (v : ℕ) (m : Marks) (q : Progress) (ram rom tape log : List ℕ) where
  abbrev before : List ℕ → World
  before f = world (state_of f m q) ram rom tape log

  saves : (f : List ℕ) → length f ≡ 14 → Saved (before f) (left (before f) (run (brkem v) (before f)))
  unfolding brkem vectored save push push_psw push_ps_pc jump_far ◌>>=◌ run run_by crossed
  saves = fourteen (λ f. Saved (before f) (left (before f) (run (brkem v) (before f)))) (λ a b c d e f g h i j k l m n. record { ss = refl; sp = refl; rom = refl; ram = refl })

-- ---- what RETEM leaves

record Taken (x y : World) : Type 0 where
  pc : reg y PC ≡ stacked x 0
  ps : reg y PS ≡ stacked x 2
  sp : reg y SP ≡ add16 (add16 (add16 (reg x SP) 2) 2) 2
  psw : psw_of y.state ≡ in_mode true (settled keeps (restored (stacked x 4)) (psw_of x.state))
  locked : y.state.marks.writable ≡ false

same_offset : (o : ℕ) → add16 (add16 o 2) 2 ≡ add16 o 4
same_offset o = omega arith

module _ (m : Marks) (q : Progress) (ram rom tape log : List ℕ) where
  abbrev between : List ℕ → World
  between f = world (state_of f m q) ram rom tape log

  -- the stack pointer of a machine has sixteen bits
  takes : (f : List ℕ) → length f ≡ 14 → get_or f SP 0 < 65536 → Taken (between f) (left (between f) (run retem (between f)))
  unfolding retem pop_return pop ◌>>=◌ run run_by crossed
  takes =
      fourteen (λ f. get_or f SP 0 < 65536 → Taken (between f) (left (between f) (run retem (between f))))
      (λ a b c d e f g h i j k l m n s.
      let z : e ≡ add16 e 0 = omega arith in
      record {
        pc = ap (λ o. read_mem true ram rom k o) z;
        ps = refl;
        sp = refl;
        psw = ap (λ o. in_mode true (settled keeps (restored (read_mem true ram rom k o)) n)) (same_offset e);
        locked = refl;
      })

-- a stored PSW comes back whole, in native mode
restored_whole : (x y : ℕ) → fixed_of x ≡ true → native_of x ≡ true → in_mode true (settled keeps (restored x) y) ≡ x
unfolding in_mode
restored_whole x y e m =
    same_psw (in_mode true (settled keeps (restored x) y)) x (fixed_mode true (settled keeps (restored x) y)) e (native_mode true (settled keeps (restored x) y) ∙ sym m)
    (λ f. flag_pack true (flag_of (settled keeps (restored x) y)) f ∙ flag_settled keeps (restored x) y f)

-- ---- words that are written and read back

module _ (ram rom : List ℕ) where
  byte_same : (a v : ℕ) → a < length ram → byte_at (set ram a v) rom a ≡ v
  unfolding byte_at
  byte_same a v h = rw (length-set ram a v, lt-ltb a (length ram) h) (get_or-set_same ram a v 0 h)

  byte_other : (a b v : ℕ) → b ≢ a → byte_at (set ram a v) rom b ≡ byte_at ram rom b
  unfolding byte_at
  byte_other a b v h = rw (length-set ram a v, get_or-set_other ram a b v 0 h)

-- two offsets of a segment are two addresses
apart : (g o p : ℕ) → o < 65536 → p < 65536 → o ≢ p → physical g o ≢ physical g p
apart g o p h k d e = d (omega arith)

halves : (v : ℕ) → v < 65536 → v % 256 + 256 * (v / 256 % 256) ≡ v
halves v h = omega arith

module _ (ram rom : List ℕ) (g o v : ℕ) where
  word_same : o < 65536 → physical g o < length ram → physical g (next o) < length ram → v < 65536 → read_mem true (write_mem true ram g o v) rom g o ≡ v
  unfolding read_mem write_mem
  word_same l h k s =
      let n : next o ≢ o = λ e. omega arith in
      rw (byte_other (set ram (physical g o) (v % 256)) rom (physical g (next o)) (physical g o) (v / 256 % 256) (apart g o (next o) l (omega arith) (λ e. n (sym e))), byte_same ram rom (physical g o) (v % 256) h, byte_same (set ram (physical g o) (v % 256)) rom (physical g (next o)) (v / 256 % 256) (rw (length-set ram (physical g o) (v % 256)) k))
      (halves v s)

  -- another word, two or four bytes from it
  word_other : (p : ℕ) → o < 65536 → p < 65536 → o ≢ p → o ≢ next p → next o ≢ p → next o ≢ next p → read_mem true (write_mem true ram g o v) rom g p ≡ read_mem true ram rom g p
  unfolding read_mem write_mem
  word_other p l k a b c d =
      let one : (x : ℕ) → x < 65536 → o ≢ x → next o ≢ x → byte_at (set (set ram (physical g o) (v % 256)) (physical g (next o)) (v / 256 % 256)) rom (physical g x) ≡ byte_at ram rom (physical g x) =
      λ x s y z. byte_other (set ram (physical g o) (v % 256)) rom (physical g (next o)) (physical g x) (v / 256 % 256) (λ e. apart g (next o) x (omega arith) s z (sym e))
      ∙ byte_other ram rom (physical g o) (physical g x) (v % 256) (λ e. apart g o x l s y (sym e)) in
      rw (one p k a c, one (next p) (omega arith) b d)

-- ---- together

below : (x n : ℕ) → sub16 x n < 65536
below x n = omega arith

up_two : (x : ℕ) → x < 65536 → sub16 x 2 ≡ add16 (sub16 (sub16 x 2) 2) 2
up_two x l = omega arith

lower_four : (x : ℕ) → x < 65536 → sub16 (sub16 x 2) 2 ≡ sub16 x 4
lower_four x l = omega arith

lower_six : (x : ℕ) → x < 65536 → sub16 (sub16 (sub16 x 2) 2) 2 ≡ sub16 x 6
lower_six x l = ap (λ (y : ℕ). sub16 y 2) (lower_four x l) ∙ last
  where
    last : sub16 (sub16 x 4) 2 ≡ sub16 x 6
    last = omega arith

higher_six : (o : ℕ) → add16 (add16 (add16 o 2) 2) 2 ≡ add16 o 6
higher_six o = ap (λ (y : ℕ). add16 y 2) (same_offset o) ∙ last
  where
    last : add16 (add16 o 4) 2 ≡ add16 o 6
    last = omega arith

-- the offsets of the three words, the lowest last pushed
module _ (sp : ℕ) (l : sp < 65536) where
  record Offsets : Type 0 where
    z : sub16 (sub16 (sub16 sp 2) 2) 2 ≡ add16 (sub16 sp 6) 0
    a : next (sub16 (sub16 (sub16 sp 2) 2) 2) ≡ add16 (sub16 sp 6) 1
    b : sub16 (sub16 sp 2) 2 ≡ add16 (sub16 sp 6) 2
    c : next (sub16 (sub16 sp 2) 2) ≡ add16 (sub16 sp 6) 3
    d : sub16 sp 2 ≡ add16 (sub16 sp 6) 4
    e : next (sub16 sp 2) ≡ add16 (sub16 sp 6) 5

  offsets : Offsets
  offsets = record {
    z = lower_six sp l ∙ still;
    a = ap (λ (y : ℕ). next y) (lower_six sp l);
    b = lower_four sp l ∙ two;
    c = ap (λ (y : ℕ). next y) (lower_four sp l) ∙ three;
    d = four;
    e = five;
  }
    where
      still : sub16 sp 6 ≡ add16 (sub16 sp 6) 0
      still = omega arith

      two : sub16 sp 4 ≡ add16 (sub16 sp 6) 2
      two = omega arith

      three : next (sub16 sp 4) ≡ add16 (sub16 sp 6) 3
      three = omega arith

      four : sub16 sp 2 ≡ add16 (sub16 sp 6) 4
      four = omega arith

      five : next (sub16 sp 2) ≡ add16 (sub16 sp 6) 5
      five = omega arith

  record Above : Type 0 where
    none : add16 (sub16 (sub16 (sub16 sp 2) 2) 2) 0 ≡ sub16 (sub16 (sub16 sp 2) 2) 2
    two : add16 (sub16 (sub16 (sub16 sp 2) 2) 2) 2 ≡ sub16 (sub16 sp 2) 2
    four : add16 (sub16 (sub16 (sub16 sp 2) 2) 2) 4 ≡ sub16 sp 2

  above : Above
  above = omega arith

  -- what three pops undo
  popped : add16 (add16 (add16 (sub16 (sub16 (sub16 sp 2) 2) 2) 2) 2) 2 ≡ sp
  popped = ap (λ (y : ℕ). add16 (add16 (add16 y 2) 2) 2) (lower_six sp l) ∙ higher_six (sub16 sp 6) ∙ last
    where
      last : add16 (sub16 sp 6) 6 ≡ sp
      last = omega arith

-- two words whose offsets are two apart have no byte in common, nor four apart
clear : (o p : ℕ) → o < 65536 → p ≡ add16 o 2 → (o ≢ p) × (o ≢ next p) × (next o ≢ p) × (next o ≢ next p)
clear o p l e = ((λ q. omega arith), (λ q. omega arith), (λ q. omega arith), (λ q. omega arith))

clear_of_both : (o p : ℕ) → o < 65536 → p ≡ add16 o 4 → (o ≢ p) × (o ≢ next p) × (next o ≢ p) × (next o ≢ next p)
clear_of_both o p l e = ((λ q. omega arith), (λ q. omega arith), (λ q. omega arith), (λ q. omega arith))

module _ (ram rom : List ℕ) (g sp psw ps pc : ℕ) (l : sp < 65536) (room : (j : ℕ) → j < pushed_bytes → physical g (add16 (sub16 sp 6) j) < length ram) where
  first_pushed : List ℕ
  first_pushed = write_mem true ram g (sub16 sp 2) psw

  second_pushed : List ℕ
  second_pushed = write_mem true first_pushed g (sub16 (sub16 sp 2) 2) ps

  all_pushed : List ℕ
  all_pushed = write_mem true second_pushed g (sub16 (sub16 (sub16 sp 2) 2) 2) pc

  inside : (o j : ℕ) → j < pushed_bytes → o ≡ add16 (sub16 sp 6) j → physical g o < length ram
  inside o j h e = rw e (room j h)

  first_long : length first_pushed ≡ length ram
  unfolding first_pushed
  first_long = write_mem_length true ram g _ psw

  second_long : length second_pushed ≡ length ram
  unfolding second_pushed
  second_long = write_mem_length true first_pushed g _ ps ∙ first_long

  pc_there : pc < 65536 → read_mem true all_pushed rom g (sub16 (sub16 (sub16 sp 2) 2) 2) ≡ pc
  unfolding all_pushed
  pc_there h =
      let o = offsets sp l in
      word_same second_pushed rom g (sub16 (sub16 (sub16 sp 2) 2) 2) pc (below _ 2) (rw second_long (inside _ 0 (lit< tt) o.z)) (rw second_long (inside _ 1 (lit< tt) o.a)) h

  ps_there : ps < 65536 → read_mem true all_pushed rom g (sub16 (sub16 sp 2) 2) ≡ ps
  unfolding all_pushed second_pushed
  ps_there h =
      let o = offsets sp l in
      let (a, b, c, d) = clear (sub16 (sub16 (sub16 sp 2) 2) 2) (sub16 (sub16 sp 2) 2) (below _ 2) (sym (above sp l).two) in
      word_other second_pushed rom g (sub16 (sub16 (sub16 sp 2) 2) 2) pc (sub16 (sub16 sp 2) 2) (below _ 2) (below _ 2) a b c d
      ∙ word_same first_pushed rom g (sub16 (sub16 sp 2) 2) ps (below _ 2) (rw first_long (inside _ 2 (lit< tt) o.b)) (rw first_long (inside _ 3 (lit< tt) o.c)) h

  psw_there : psw < 65536 → read_mem true all_pushed rom g (sub16 sp 2) ≡ psw
  unfolding all_pushed second_pushed first_pushed
  psw_there h =
      let o = offsets sp l in
      let (a, b, c, d) = clear_of_both (sub16 (sub16 (sub16 sp 2) 2) 2) (sub16 sp 2) (below _ 2) (sym (above sp l).four) in
      let (a', b', c', d') = clear (sub16 (sub16 sp 2) 2) (sub16 sp 2) (below _ 2) (up_two sp l) in
      word_other second_pushed rom g (sub16 (sub16 (sub16 sp 2) 2) 2) pc (sub16 sp 2) (below _ 2) (below _ 2) a b c d
      ∙ word_other first_pushed rom g (sub16 (sub16 sp 2) 2) ps (sub16 sp 2) (below _ 2) (below _ 2) a' b' c' d'
      ∙ word_same ram rom g (sub16 sp 2) psw (below _ 2) (inside _ 4 (lit< tt) o.d) (inside _ 5 (lit< tt) o.e) h

wrapped : (x : ℕ) → x < 65536 → wrap_of true x ≡ x
unfolding wrap_of
wrapped x h = omega arith

sixteen_bits : (x : ℕ) → x ≤ 65535 → x < 65536
sixteen_bits x h = omega arith

-- BRKEM from native mode with room on the stack, then code that keeps SS, SP and the three words, then RETEM
module _
    (vector : ℕ) (w u x y : World) (s t : List Event) (start : Breaking w) (broke : run (brkem vector) w ≡ done tt u s) (kept : SameStack u x)
    (returned : run retem x ≡ done tt y t) where
  saved : Saved w u
  saved = subst (λ (z : World). Saved w z) (ap (left w) broke) (saves vector w.state.marks w.state.progress w.ram w.rom w.tape w.log w.state.file start.whole)

  sp_low : reg w SP < 65536
  sp_low = sixteen_bits _ (start.words SP)

  at_top : reg x SP ≡ sub16 (sub16 (top w 2) 2) 2
  at_top = kept.sp ∙ saved.sp

  taken : Taken x y
  taken =
      let low : get_or x.state.file SP 0 < 65536 = rw at_top (omega arith) in
      subst (λ (z : World). Taken x z) (ap (left x) returned) (takes x.state.marks x.state.progress x.ram x.rom x.tape x.log x.state.file kept.whole low)

  pc_back : stacked u 0 ≡ reg w PC
  unfolding all_pushed second_pushed first_pushed
  pc_back =
      rw (saved.ram, saved.rom, saved.ss, saved.sp, (above (reg w SP) sp_low).none)
      (pc_there w.ram w.rom (reg w SS) (reg w SP) (wrap_of true (psw_of w.state)) (reg w PS) (reg w PC) sp_low start.room (sixteen_bits _ (start.words PC)))

  ps_back : stacked u 2 ≡ reg w PS
  unfolding all_pushed second_pushed first_pushed
  ps_back =
      rw (saved.ram, saved.rom, saved.ss, saved.sp, (above (reg w SP) sp_low).two)
      (ps_there w.ram w.rom (reg w SS) (reg w SP) (wrap_of true (psw_of w.state)) (reg w PS) (reg w PC) sp_low start.room (sixteen_bits _ (start.words PS)))

  psw_back : stacked u 4 ≡ psw_of w.state
  unfolding all_pushed second_pushed first_pushed
  psw_back =
      let low = sixteen_bits _ (start.words PSW) in
      rw (saved.ram, saved.rom, saved.ss, saved.sp, (above (reg w SP) sp_low).four)
      (psw_there w.ram w.rom (reg w SS) (reg w SP) (wrap_of true (psw_of w.state)) (reg w PS) (reg w PC) sp_low start.room (rw (wrapped _ low) low) ∙ wrapped _ low)

  pub retem_gives_back : GivenBack w y
  retem_gives_back = record {
    ps = taken.ps ∙ kept.second ∙ ps_back;
    pc = taken.pc ∙ kept.first ∙ pc_back;
    psw = taken.psw ∙ rw (kept.third, psw_back) (restored_whole (psw_of w.state) (psw_of x.state) start.fixed start.native);
    sp = taken.sp ∙ rw at_top (popped (reg w SP) sp_low);
    locked = taken.locked;
  }
