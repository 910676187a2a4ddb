-- What a turn of the run comes to: what its accesses come to, or a refusal.
use Rattle.std.specs.Prelude.{ℕ, List, Result, Ok, Err, is_ok}
use Rattle.sheet.specs.declared.Bus.{Bus}
use Rattle.sheet.specs.declared.Refusal.{Refusal}
use Rattle.sheet.specs.declared.State.{State}
use Rattle.sheet.specs.Handler.{nothing}
use Rattle.sheet.specs.Refusals.{number_in}
use Rattle.step_answer.specs.Steps.{Advances}

abbrev pub bus_in : Result Bus Refusal → Bus
bus_in (Ok n) = n
bus_in (Err e) = nothing

abbrev pub Turns : State → (ram rom tape log : List ℕ) → Result Bus Refusal → State → (ram' log' : List ℕ) → Type 0
Turns s ram rom tape log r s' ram' log' = Advances s ram rom tape log (is_ok r) (number_in r) s' ram' log' (bus_in r)
