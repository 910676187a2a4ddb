-- A block instruction comes to what is due: for any primitive and whatever is lent.
use Prim.Native.Nat.{ℕ}
use mathlib.Core.Path.{◌≡◌, refl, ◌∙◌}
use mathlib.Core.Bool.{Bool, true, false}
use mathlib.Core.List.{List}
use lib.Dec.{eqb}
use lib.ListN.{get_or}
use Rattle.sheet.specs.declared.Bus.{Bus}
use Rattle.sheet.specs.declared.Primitive.{Primitive}
use Rattle.sheet.specs.declared.Repeat.{Repeat}
use Rattle.sheet.specs.declared.Repeat.TheVariants.{Once, WhileZ, WhileNotZ, WhileCy, WhileNotCy}
use Rattle.sheet.specs.Width.{pick}
use Rattle.sheet.specs.Registers.{CW, file_of}
use Rattle.sheet.specs.World.{World}
use Rattle.sheet.specs.Act.{pure, ◌>>=◌}
use Rattle.sheet.specs.Handler.{run, run_by}
use Rattle.sheet.specs.Block.{primitive, after_element, element, repeated, block}
use Rattle.sheet.specs.Contract.{exec, Ends, Stops, OnMemory}
use Rattle.mach_element.specs.declared.Due.{Due}
use Rattle.mach_element.specs.Due.{counted_due, due_of, due_tree}

-- an element is the primitive, and then what follows
pub element_is : (k : Primitive) (w : Bool) (seg : ℕ) (q : Repeat) (start : ℕ) → element k w seg q start ≡ primitive k w seg >>= (λ _. after_element k q start)
unfolding element
element_is k w seg q start = refl

chosen : (b : Bool) (k : Primitive) (w : Bool) (seg : ℕ) (q : Repeat) (start : ℕ) (v : World) (n : ℕ) → b ≡ eqb n 0
    → exec (pick b (pure tt) (element k w seg q start)) v ≡ exec (due_tree (counted_due n) k w seg q start) v
unfolding counted_due due_tree
chosen true k w seg q start v n e = rw (← e)
chosen false k w seg q start v n e = rw (← e)

repeated_due : (k : Primitive) (w : Bool) (seg : ℕ) (q : Repeat) (start : ℕ) (v : World)
    → exec (repeated k w seg q start) v ≡ exec (due_tree (counted_due (file_of v.state.file CW)) k w seg q start) v
unfolding repeated exec run run_by ◌>>=◌
repeated_due k w seg q start v = chosen (eqb (file_of v.state.file CW) 0) k w seg q start v (file_of v.state.file CW) refl

pub block_due : (k : Primitive) (w : Bool) (seg : ℕ) (q : Repeat) (start : ℕ) (v : World)
    → exec (block k w seg q start) v ≡ exec (due_tree (due_of (file_of v.state.file CW) q) k w seg q start) v
unfolding block due_of due_tree
block_due k w seg Once start v = refl
block_due k w seg WhileZ start v = repeated_due k w seg WhileZ start v
block_due k w seg WhileNotZ start v = repeated_due k w seg WhileNotZ start v
block_due k w seg WhileCy start v = repeated_due k w seg WhileCy start v
block_due k w seg WhileNotCy start v = repeated_due k w seg WhileNotCy start v

module _ (k : Primitive) (w : Bool) (seg : ℕ) (q : Repeat) (start : ℕ) (d : Due) where
  pub due_ends : {v u : World} {n : Bus} → d ≡ due_of (file_of v.state.file CW) q → Ends Unit (due_tree d k w seg q start) v tt u n → Ends Unit (block k w seg q start) v tt u n
  due_ends {v = v} e h = record { is = block_due k w seg q start v ∙ rw (← e) h.is }

  pub due_stops : {v : World} {n : ℕ} → d ≡ due_of (file_of v.state.file CW) q → Stops Unit (due_tree d k w seg q start) v n → Stops Unit (block k w seg q start) v n
  due_stops {v = v} e h = record { is = block_due k w seg q start v ∙ rw (← e) h.is }

  pub due_memory : {f ram rom g ram' : List ℕ} {n : Bus} {t : ℕ} → d ≡ due_of (get_or f CW 0) q → OnMemory Unit (due_tree d k w seg q start) f ram rom tt g ram' n t
      → OnMemory Unit (block k w seg q start) f ram rom tt g ram' n t
  due_memory e h = record { most = h.most; fair = h.fair; at = λ s tape log. due_ends e (h.at s tape log) }
