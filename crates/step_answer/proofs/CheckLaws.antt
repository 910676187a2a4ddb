-- What every call comes to, by the number of the checks that it makes first, and a step past them.
use Prim.Native.Nat.{ℕ}
use mathlib.Core.Bool.{Bool, true, false}
use mathlib.Core.Path.{◌≡◌, refl, sym, ap}
use native.Mathlib.Omega.{arith}
use Rattle.sheet.specs.declared.Instr.{Instr}
use Rattle.sheet.specs.Width.{pick}
use Rattle.sheet.specs.World.{World}
use Rattle.sheet.specs.Handler.{kept, run_by}
use Rattle.sheet.specs.Reading.{known}
use Rattle.sheet.specs.Step.{fits, sound, checked, starting, stepping, decoded, awake, instruction_in}
use Rattle.step_answer.specs.Calls.{check_number}

-- both are passed where it is 0
pub passed : (w : World) → check_number w ≡ 0 → (fits w ≡ true) × (sound w ≡ true)
passed w e = go (fits w) (sound w) refl refl
  where
    go : (f g : Bool) → fits w ≡ f → sound w ≡ g → (fits w ≡ true) × (sound w ≡ true)
    go true true a b = (a, b)
    go true false a b = absurd (let z : ◌≡◌ {A = ℕ} 2 0 = rw (a, b) at e in omega arith)
    go false g a b = absurd (let z : ◌≡◌ {A = ℕ} 1 0 = rw a at e in omega arith)

module _ {A : Type 0} (w : World) (refuses : ℕ → A) (then : A) where
  pub checked_passed : (fits w ≡ true) × (sound w ≡ true) → checked w refuses then ≡ then
  checked_passed (f, g) = rw (f, g)

  pub checked_refused : (number : ℕ) → number ≡ check_number w → (number ≡ 0 → ⊥) → checked w refuses then ≡ refuses number
  checked_refused number e z = go (fits w) (sound w) e
    where
      go : (f g : Bool) → number ≡ pick f (pick g 0 2) 1 → pick f (pick g then (refuses 2)) (refuses 1) ≡ refuses number
      go true true q = absurd (z q)
      go true false q = ap refuses (sym q)
      go false g q = ap refuses (sym q)

-- what a machine that is not halted comes to, by what stands at PS:PC
pub awake_known : (w : World) (i : Instr) (n : ℕ) → w.state.marks.halted ≡ false → instruction_in w ≡ known i n → awake kept w ≡ run_by kept (stepping i n) (starting i w)
unfolding awake decoded
awake_known w i n h e = rw (e, h)
