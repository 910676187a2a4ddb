-- What a block instruction has to do, by its repeat and by CW.
use Rattle.std.specs.Prelude.{ℕ, Bool, eqb}
use Rattle.sheet.specs.declared.Primitive.{Primitive}
use Rattle.sheet.specs.declared.Repeat.{Repeat}
use Rattle.sheet.specs.declared.Repeat.TheVariants.{Once, WhileZ, WhileNotZ, WhileCy, WhileNotCy}
use Rattle.sheet.specs.Width.{pick}
use Rattle.sheet.specs.Act.{Act, pure}
use Rattle.sheet.specs.Block.{primitive, element}
use Rattle.mach_element.specs.declared.Due.{Due}
use Rattle.mach_element.specs.declared.Due.TheVariants.{Nothing, Single, Element}

-- a repeat, with CW = n
unfoldable pub counted_due : ℕ → Due
counted_due n = pick (eqb n 0) Nothing Element

unfoldable pub due_of : ℕ → Repeat → Due
due_of n Once = Single
due_of n WhileZ = counted_due n
due_of n WhileNotZ = counted_due n
due_of n WhileCy = counted_due n
due_of n WhileNotCy = counted_due n

-- the tree of what is due
unfoldable pub due_tree : Due → Primitive → Bool → ℕ → Repeat → ℕ → Act Unit
due_tree Nothing k w seg q start = pure tt
due_tree Single k w seg q start = primitive k w seg
due_tree Element k w seg q start = element k w seg q start
