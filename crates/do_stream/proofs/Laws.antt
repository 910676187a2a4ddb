-- What each instruction comes to, from what its parts come to.
use Prim.Native.Nat.{ℕ}
use mathlib.Core.Bool.{Bool}
use mathlib.Core.List.{List}
use mathlib.Core.Path.{◌≡◌}
use lib.ListN.{get_or}
use Rattle.sheet.specs.declared.Bus.{Bus}
use Rattle.sheet.specs.declared.Progress.{Progress}
use Rattle.sheet.specs.declared.Primitive.{Primitive}
use Rattle.sheet.specs.declared.Primitive.TheVariants.{Inm, Outm}
use Rattle.sheet.specs.declared.Repeat.{Repeat}
use Rattle.sheet.specs.Registers.{CW, DW, IX, IY}
use Rattle.sheet.specs.World.{state_of}
use Rattle.sheet.specs.Act.{pure}
use Rattle.sheet.specs.Handler.{nothing, ◌⊕◌}
use Rattle.sheet.specs.Block.{source_element, set_target, step_index, primitive, after_element, element, block}
use Rattle.sheet.specs.Contract.{OnFile, OnMemory}
use Rattle.sheet.proofs.Rules.{seq, seq_last, seq_stops, seq_then_stops, ends_pure, seq_registers, ends_registers}
use Rattle.mach_tally.specs.Sums.{Free, Joins}
use Rattle.mach_tally.proofs.Bounds.{within_none, within_both, within_memory}
use Rattle.mach_ports.specs.Accesses.{Gives, Takes, OnPorts}
use Rattle.mach_ports.proofs.Told.{ports_end, ports_stop}
use Rattle.mach_element.specs.declared.Due.{Due}
use Rattle.mach_element.specs.Due.{due_of, due_tree}
use Rattle.mach_element.proofs.DueLaws.{element_is, due_ends, due_stops}
use Rattle.do_stream.specs.declared.Streaming.{Streaming}
use Rattle.do_stream.specs.declared.Streaming.TheVariants as streaming
use Rattle.do_stream.specs.Streams.{primitive_of}

module _ (w : Bool) (seg : ℕ) (f g ram ram' rom tape log log' : List ℕ) (q q' : Progress) (number v : ℕ) (c m r : Bus) where
  pub inm_done : Takes w (get_or f DW 0) tape log q number v log' q' c → number ≡ 0 → OnMemory Unit (set_target w v) f ram rom tt f ram' m 2 → OnFile Unit (step_index w IY) f tt g
      → Joins c m r → OnPorts (primitive Inm w seg) f ram rom tape log q 0 g ram' log' q' r 4
  unfolding primitive
  inm_done t z s x j =
      rw j.is
      (ports_end _ f ram rom tape log q g ram' log' q' (c ⊕ m) 4 (within_both t.most (within_memory s))
      (λ h. seq_registers _ (seq _ (t.done z f h ram rom) (seq_last _ (s.at (state_of f h q') tape log') (x.at (state_of f h q') ram' rom tape log')))))

  pub inm_stop : Takes w (get_or f DW 0) tape log q number v log' q' c → (number ≡ 0 → ⊥) → OnPorts (primitive Inm w seg) f ram rom tape log q number f ram log' q' c 4
  unfolding primitive
  inm_stop t z =
      ports_stop _ f ram rom tape log q number log' q' c 4 z (t.same z)
      (λ h. seq_then_stops _ ends_registers (seq_stops _ (t.stop z f h ram rom)))

  pub outm_done : OnMemory ℕ (source_element w seg) f ram rom v f ram m 2 → Gives w (get_or f DW 0) v log q number log' q' c → number ≡ 0 → OnFile Unit (step_index w IX) f tt g
      → Joins m c r → OnPorts (primitive Outm w seg) f ram rom tape log q 0 g ram log' q' r 4
  unfolding primitive
  outm_done s t z x j =
      rw j.is
      (ports_end _ f ram rom tape log q g ram log' q' (m ⊕ c) 4 (within_both (within_memory s) t.most)
      (λ h. seq _ (s.at (state_of f h q) tape log) (seq_registers _ (seq_last _ (t.done z f h ram rom tape) (x.at (state_of f h q') ram rom tape log')))))

  pub outm_stop : OnMemory ℕ (source_element w seg) f ram rom v f ram m 2 → Gives w (get_or f DW 0) v log q number log' q' c → (number ≡ 0 → ⊥)
      → OnPorts (primitive Outm w seg) f ram rom tape log q number f ram log' q' c 4
  unfolding primitive
  outm_stop s t z =
      ports_stop _ f ram rom tape log q number log' q' c 4 z (t.same z)
      (λ h. seq_then_stops _ (s.at (state_of f h q) tape log) (seq_then_stops _ ends_registers (seq_stops _ (t.stop z f h ram rom tape))))

module _ (i : Streaming) (w : Bool) (seg : ℕ) (f g ram ram' rom tape log log' : List ℕ) (q q' : Progress) (number : ℕ) (c : Bus) where
  pub kind_known : (j : Streaming) → i ≡ j → OnPorts (primitive (primitive_of j) w seg) f ram rom tape log q number g ram' log' q' c 4 → OnPorts (primitive (primitive_of i) w seg) f ram rom tape log q number g ram' log' q' c 4
  kind_known j e h = rw e h

module _ (k : Primitive) (w : Bool) (seg : ℕ) (r : Repeat) (start : ℕ) (f ram rom tape log : List ℕ) (q : Progress) where
  pub one_element : (i : Primitive) (g j ram' log' : List ℕ) (q' : Progress) (number : ℕ) (c : Bus) → i ≡ k → OnPorts (primitive k w seg) f ram rom tape log q number g ram' log' q' c 4 → number ≡ 0
      → OnFile Unit (after_element i r start) g tt j → OnPorts (element k w seg r start) f ram rom tape log q number j ram' log' q' c 4
  one_element i g j ram' log' q' number c e p z x =
      rw (z, element_is k w seg r start)
      (ports_end _ f ram rom tape log q j ram' log' q' c 4 p.most (λ h. seq_last _ (p.done z h) (rw e at (x.at (state_of g h q') ram' rom tape log'))))

  pub no_element : (g ram' log' : List ℕ) (q' : Progress) (number : ℕ) (c : Bus) → OnPorts (primitive k w seg) f ram rom tape log q number g ram' log' q' c 4 → (number ≡ 0 → ⊥)
      → OnPorts (element k w seg r start) f ram rom tape log q number g ram' log' q' c 4
  no_element g ram' log' q' number c p z =
      rw (element_is k w seg r start) (record { most = p.most; done = λ y. absurd (z y); stop = λ y h. seq_stops _ (p.stop z h); same = p.same })

  module _ (d e : Due) (g ram' log' : List ℕ) (q' : Progress) (number : ℕ) (c : Bus) where
    pub due_known : d ≡ due_of (get_or f CW 0) r → d ≡ e → OnPorts (due_tree e k w seg r start) f ram rom tape log q number g ram' log' q' c 4 → OnPorts (block k w seg r start) f ram rom tape log q number g ram' log' q' c 4
    due_known y z p = record { most = p.most; done = λ x h. due_ends k w seg r start d y (rw z (p.done x h)); stop = λ x h. due_stops k w seg r start d y (rw z (p.stop x h)); same = p.same }

pub nothing_done : (f ram rom tape log : List ℕ) (q : Progress) (n : Bus) (top : ℕ) → Free n → OnPorts (pure tt) f ram rom tape log q 0 f ram log q n top
nothing_done f ram rom tape log q n top e = rw e.is (ports_end _ f ram rom tape log q f ram log q nothing top within_none (λ h. ends_pure))
