-- An instruction that makes port accesses ends or refuses.
use Prim.Native.Nat.{ℕ}
use mathlib.Core.Bool.{Bool, true, false, true≢false}
use mathlib.Core.List.{List}
use mathlib.Core.Path.{◌≡◌, refl, sym, ◌∙◌}
use Rattle.std.specs.Prelude.{Result, Ok, Err, is_ok}
use Rattle.sheet.specs.declared.Bus.{Bus}
use Rattle.sheet.specs.declared.Marks.{Marks}
use Rattle.sheet.specs.declared.Progress.{Progress}
use Rattle.sheet.specs.declared.Refusal.{Refusal}
use Rattle.sheet.specs.Refusals.{number_in}
use Rattle.sheet.proofs.RefusalLaws.{refusal_some}
use Rattle.sheet.specs.World.{world, state_of}
use Rattle.sheet.specs.Act.{Act}
use Rattle.sheet.specs.Handler.{nothing}
use Rattle.sheet.specs.Contract.{Ends, Stops}
use Rattle.mach_tally.specs.Bounds.{Within}
use Rattle.mach_tally.proofs.Bounds.{within_none}
use Rattle.mach_ports.specs.Accesses.{OnPorts}

module _ (p : Act Unit) (f ram rom tape log : List ℕ) (q : Progress) where
  pub ports_end : (g ram' log' : List ℕ) (q' : Progress) (n : Bus) (top : ℕ) → Within n top
      → ((h : Marks) → Ends Unit p (world (state_of f h q) ram rom tape log) tt (world (state_of g h q') ram' rom tape log') n) → OnPorts p f ram rom tape log q 0 g ram' log' q' n top
  ports_end g ram' log' q' n top m e = record { most = m; done = λ z. e; stop = λ z. absurd (z refl); same = λ z. absurd (z refl) }

  pub ports_stop : (number : ℕ) (log' : List ℕ) (q' : Progress) (n : Bus) (top : ℕ) → (number ≡ 0 → ⊥) → (log' ≡ log) × (q' ≡ q) × (n ≡ nothing)
      → ((h : Marks) → Stops Unit p (world (state_of f h q) ram rom tape log) number) → OnPorts p f ram rom tape log q number f ram log' q' n top
  ports_stop number log' q' n top z s e = record { most = rw s.2 within_none; done = λ y. absurd (z y); stop = λ y. e; same = λ y. (refl, refl, s.0, s.2) }

pub ports_known : {I : Type 0} (tree : I → Act Unit) {i j : I} {f ram rom tape log : List ℕ} {q : Progress} {number : ℕ} {g ram' log' : List ℕ} {q' : Progress} {n : Bus} {top : ℕ}
    → i ≡ j → OnPorts (tree j) f ram rom tape log q number g ram' log' q' n top → OnPorts (tree i) f ram rom tape log q number g ram' log' q' n top
ports_known tree e h = rw e h

-- the number says whether a call is done
pub ok_number : {A : Type 0} (r : Result A Refusal) (b : Bool) → b ≡ is_ok r → b ≡ true → number_in r ≡ 0
ok_number (Ok a) b e h = refl
ok_number (Err r) b e h = absurd (true≢false (sym h ∙ e))

pub err_number : {A : Type 0} (r : Result A Refusal) (b : Bool) → b ≡ is_ok r → b ≡ false → number_in r ≡ 0 → ⊥
err_number (Ok a) b e h z = true≢false (sym e ∙ h)
err_number (Err r) b e h z = refusal_some r z
