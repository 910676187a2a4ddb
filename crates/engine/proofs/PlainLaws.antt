-- An instruction of a group that makes no access.
use Prim.Native.Nat.{ℕ}
use mathlib.Core.List.{List}
use mathlib.Core.Path.{◌≡◌}
use Rattle.sheet.specs.Act.{Act}
use Rattle.sheet.specs.Handler.{nothing}
use Rattle.sheet.specs.Contract.{OnFile, OnMemory}
use Rattle.sheet.proofs.Lifted.{on_memory, file_known}

pub at_file : {I : Type 0} (tree : I → Act Unit) {i j : I} {f g : List ℕ} (ram rom : List ℕ) (top : ℕ) → i ≡ j → OnFile Unit (tree j) f tt g → OnMemory Unit (tree i) f ram rom tt g ram nothing top
at_file tree ram rom top e h = on_memory ram rom top (file_known tree e h)
