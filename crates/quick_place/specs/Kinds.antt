-- The kinds of readings and their numbers.
use Rattle.std.specs.Prelude.{ℕ, ◌≤◌, ◌<◌, ◌≡◌}
use Rattle.quick_place.specs.declared.kind.Kind.{Kind}
use Rattle.quick_place.specs.declared.kind.Kind.TheVariants as kinds

abbrev pub kind_number : Kind → ℕ
kind_number kinds.General = 0
kind_number kinds.AluRegReg = 1
kind_number kinds.AluRegMem = 2
kind_number kinds.AluMemReg = 3
kind_number kinds.MovRegReg = 4
kind_number kinds.MovRegMem = 5
kind_number kinds.MovMemReg = 6
kind_number kinds.MovRegImm = 7
kind_number kinds.PushReg = 8
kind_number kinds.PopReg = 9
kind_number kinds.BranchIf = 10
kind_number kinds.CallNear = 11
kind_number kinds.Ret = 12
kind_number kinds.AluRegImm = 16
kind_number kinds.AluMemImm = 17
kind_number kinds.MovMemImm = 18
kind_number kinds.UnaryReg = 19
kind_number kinds.UnaryMem = 20
kind_number kinds.BrNear = 21
kind_number kinds.BrShort = 22
kind_number kinds.Dbnz = 23
kind_number kinds.ShiftRegOne = 24
kind_number kinds.ShiftMemOne = 25
kind_number kinds.LoadAcc = 26
kind_number kinds.StoreAcc = 27
kind_number kinds.TestRegReg = 28
kind_number kinds.TestRegImm = 29
kind_number kinds.Block = 32
kind_number kinds.DecimalString = 33
kind_number kinds.Convert = 34
kind_number kinds.MultiplyReg = 35
kind_number kinds.Bcwz = 36
kind_number kinds.ShiftRegCounted = 37
kind_number kinds.ShiftMemCounted = 38
kind_number kinds.Ldea = 39
kind_number kinds.XchRegReg = 40
kind_number kinds.MovRegSegment = 41
kind_number kinds.BrFar = 42
kind_number kinds.Dbnzne = 43
kind_number kinds.Dbnze = 44
kind_number kinds.In = 48
kind_number kinds.Out = 49
kind_number kinds.Stream = 50

-- n is no kind's number: below 16, below 32, below 48 and from there on
pub record Unkinded (n : ℕ) : Type 0 where
  pub first : n < 16 → (n ≡ 0 → ⊥) → 13 ≤ n
  pub second : 16 ≤ n → n < 32 → 30 ≤ n
  pub third : 32 ≤ n → n < 48 → 45 ≤ n
  pub last : 48 ≤ n → 51 ≤ n

-- the kind that the number n names
abbrev pub Kinded : Kind → ℕ → Type 0
Kinded kinds.General n = Unkinded n
Kinded kinds.AluRegReg n = n ≡ 1
Kinded kinds.AluRegMem n = n ≡ 2
Kinded kinds.AluMemReg n = n ≡ 3
Kinded kinds.MovRegReg n = n ≡ 4
Kinded kinds.MovRegMem n = n ≡ 5
Kinded kinds.MovMemReg n = n ≡ 6
Kinded kinds.MovRegImm n = n ≡ 7
Kinded kinds.PushReg n = n ≡ 8
Kinded kinds.PopReg n = n ≡ 9
Kinded kinds.BranchIf n = n ≡ 10
Kinded kinds.CallNear n = n ≡ 11
Kinded kinds.Ret n = n ≡ 12
Kinded kinds.AluRegImm n = n ≡ 16
Kinded kinds.AluMemImm n = n ≡ 17
Kinded kinds.MovMemImm n = n ≡ 18
Kinded kinds.UnaryReg n = n ≡ 19
Kinded kinds.UnaryMem n = n ≡ 20
Kinded kinds.BrNear n = n ≡ 21
Kinded kinds.BrShort n = n ≡ 22
Kinded kinds.Dbnz n = n ≡ 23
Kinded kinds.ShiftRegOne n = n ≡ 24
Kinded kinds.ShiftMemOne n = n ≡ 25
Kinded kinds.LoadAcc n = n ≡ 26
Kinded kinds.StoreAcc n = n ≡ 27
Kinded kinds.TestRegReg n = n ≡ 28
Kinded kinds.TestRegImm n = n ≡ 29
Kinded kinds.Block n = n ≡ 32
Kinded kinds.DecimalString n = n ≡ 33
Kinded kinds.Convert n = n ≡ 34
Kinded kinds.MultiplyReg n = n ≡ 35
Kinded kinds.Bcwz n = n ≡ 36
Kinded kinds.ShiftRegCounted n = n ≡ 37
Kinded kinds.ShiftMemCounted n = n ≡ 38
Kinded kinds.Ldea n = n ≡ 39
Kinded kinds.XchRegReg n = n ≡ 40
Kinded kinds.MovRegSegment n = n ≡ 41
Kinded kinds.BrFar n = n ≡ 42
Kinded kinds.Dbnzne n = n ≡ 43
Kinded kinds.Dbnze n = n ≡ 44
Kinded kinds.In n = n ≡ 48
Kinded kinds.Out n = n ≡ 49
Kinded kinds.Stream n = n ≡ 50
