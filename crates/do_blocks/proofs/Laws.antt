-- What a primitive with or without a port comes to as a block instruction.
use Prim.Native.Nat.{ℕ}
use mathlib.Core.Bool.{Bool}
use mathlib.Core.List.{List}
use mathlib.Core.Path.{◌≡◌}
use Rattle.sheet.specs.declared.Bus.{Bus}
use Rattle.sheet.specs.declared.Progress.{Progress}
use Rattle.sheet.specs.declared.Primitive.{Primitive}
use Rattle.sheet.specs.declared.Repeat.{Repeat}
use Rattle.sheet.specs.World.{state_of}
use Rattle.sheet.specs.Block.{block}
use Rattle.sheet.specs.Contract.{OnMemory}
use Rattle.mach_tally.proofs.Bounds.{within_memory}
use Rattle.mach_ports.specs.Accesses.{OnPorts}
use Rattle.mach_ports.proofs.Told.{ports_end, ports_known}
use Rattle.do_block.specs.declared.Portless.{Portless}
use Rattle.do_block.specs.Portless.{primitive_of}

module _ (k : Primitive) (w : Bool) (seg : ℕ) (r : Repeat) (start : ℕ) (f g ram ram' rom tape log log' : List ℕ) (q q' : Progress) (number : ℕ) (n : Bus) where
  pub no_port : (i : Portless) → k ≡ primitive_of i → OnMemory Unit (block (primitive_of i) w seg r start) f ram rom tt g ram' n 4
      → OnPorts (block k w seg r start) f ram rom tape log q 0 g ram' log q n 4
  no_port i e h = rw e (ports_end _ f ram rom tape log q g ram' log q n 4 (within_memory h) (λ b. h.at (state_of f b q) tape log))

  pub with_port : (j : Primitive) → k ≡ j → OnPorts (block j w seg r start) f ram rom tape log q number g ram' log' q' n 4 → OnPorts (block k w seg r start) f ram rom tape log q number g ram' log' q' n 4
  with_port j = ports_known (λ i. block i w seg r start)
