-- What each return of the code comes to, and the laws that callers cite.
use Prim.Native.Nat.{ℕ, ◌+◌, ◌%◌, ◌≤◌}
use mathlib.Core.Path.{◌≡◌}
use mathlib.Core.Bool.{Bool, true, false}
use mathlib.Core.List.{List}
use native.Mathlib.Omega.{arith}
use lib.Dec.{lit≤}
use Rattle.sheet.specs.declared.Bus.{Bus}
use Rattle.sheet.specs.Memory.{bus_cycles}
use Rattle.sheet.specs.Act.{Act}
use Rattle.sheet.specs.Handler.{nothing, ◌⊕◌}
use Rattle.sheet.specs.Contract.{OnMemory}
use Rattle.mach_tally.specs.Sums.{Free, Costs, Joins, JoinsThree}

pub cycles_word : (w : Bool) (o : ℕ) → w ≡ true → 1 + o % 2 ≡ bus_cycles w o
unfolding bus_cycles
cycles_word w o p = rw p

pub cycles_byte : (w : Bool) (o : ℕ) → w ≡ false → 1 ≡ bus_cycles w o
unfolding bus_cycles
cycles_byte w o p = rw p

cycles_most : (w : Bool) (o : ℕ) → bus_cycles w o ≤ 2
unfolding bus_cycles
cycles_most true o = omega arith
cycles_most false o = lit≤ tt

pub costs : (w : Bool) (o d c : ℕ) → c ≡ bus_cycles w o → Costs w o d (record { cycles = c; dropped = d })
costs w o d c e = record { is = rw e; most = rw e (cycles_most w o) }

module _ {A : Type 0} {p : Act A} {f ram rom f' ram' : List ℕ} {a : A} {t : ℕ} where
  -- no access
  pub memory_none : {r : Bus} → Free r → OnMemory A p f ram rom a f' ram' nothing t → OnMemory A p f ram rom a f' ram' r t
  memory_none e h = rw e.is h

  -- two accesses, or two lists of them
  pub memory_sum : {r n m : Bus} → Joins n m r → OnMemory A p f ram rom a f' ram' (n ⊕ m) t → OnMemory A p f ram rom a f' ram' r t
  memory_sum e h = rw e.is h

  -- three
  pub memory_three : {r n m k : Bus} → JoinsThree n m k r → OnMemory A p f ram rom a f' ram' (n ⊕ (m ⊕ k)) t → OnMemory A p f ram rom a f' ram' r t
  memory_three e h = rw e.is h

  -- four
  pub memory_sums_four : {r n m k l x y : Bus} → Joins n x r → Joins m y x → Joins k l y → OnMemory A p f ram rom a f' ram' (n ⊕ (m ⊕ (k ⊕ l))) t → OnMemory A p f ram rom a f' ram' r t
  memory_sums_four e q j h = rw (e.is, q.is, j.is) h

pub ruleset sums = (memory_none, memory_sum, memory_three)
