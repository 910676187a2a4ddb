use Rattle.quick_perform.proofs.Laws.{bcwz_is, dbnze_is, dbnzne_is, does_nothing, file_0, file_16, file_32, memory_0, memory_16, memory_32, tries_32}
use mathlib.Core.Path.{refl}
use borrow.Author.Rules.{rules}
use Rattle.quick_perform.proofs.operate.Goals as goal

pub returns-in-General : goal.returns-in-General
returns-in-General c = search (does_nothing, rules)

pub returns-in-AluRegReg : goal.returns-in-AluRegReg
returns-in-AluRegReg c = search (file_0, rules)

pub returns-in-AluRegMem : goal.returns-in-AluRegMem
returns-in-AluRegMem c = search (memory_0, rules)

pub returns-in-AluMemReg : goal.returns-in-AluMemReg
returns-in-AluMemReg c = search (memory_0, rules)

pub returns-in-MovRegReg : goal.returns-in-MovRegReg
returns-in-MovRegReg c = search (file_0, rules)

pub returns-in-MovRegMem : goal.returns-in-MovRegMem
returns-in-MovRegMem c = search (memory_0, rules)

pub returns-in-MovMemReg : goal.returns-in-MovMemReg
returns-in-MovMemReg c = search (memory_0, rules)

pub returns-in-MovRegImm : goal.returns-in-MovRegImm
returns-in-MovRegImm c = search (file_0, rules)

pub returns-in-PushReg : goal.returns-in-PushReg
returns-in-PushReg c = search (memory_0, rules)

pub returns-in-PopReg : goal.returns-in-PopReg
returns-in-PopReg c = search (memory_0, rules)

pub returns-in-BranchIf : goal.returns-in-BranchIf
returns-in-BranchIf c = search (file_0, rules)

pub returns-in-CallNear : goal.returns-in-CallNear
returns-in-CallNear c = search (memory_0, rules)

pub returns-in-Ret : goal.returns-in-Ret
returns-in-Ret c = search (memory_0, rules)

pub returns-in-AluRegImm : goal.returns-in-AluRegImm
returns-in-AluRegImm c = search (file_16, rules)

pub returns-in-AluMemImm : goal.returns-in-AluMemImm
returns-in-AluMemImm c = search (memory_16, rules)

pub returns-in-MovMemImm : goal.returns-in-MovMemImm
returns-in-MovMemImm c = search (memory_16, rules)

pub returns-in-UnaryReg : goal.returns-in-UnaryReg
returns-in-UnaryReg c = search (file_16, rules)

pub returns-in-UnaryMem : goal.returns-in-UnaryMem
returns-in-UnaryMem c = search (memory_16, rules)

pub returns-in-BrNear : goal.returns-in-BrNear
returns-in-BrNear c = search (file_16, rules)

pub returns-in-Dbnz : goal.returns-in-Dbnz
returns-in-Dbnz c = search (file_16, rules)

pub returns-in-ShiftRegOne : goal.returns-in-ShiftRegOne
returns-in-ShiftRegOne c = search (file_16, rules)

pub returns-in-ShiftMemOne : goal.returns-in-ShiftMemOne
returns-in-ShiftMemOne c = search (memory_16, rules)

pub returns-in-LoadAcc : goal.returns-in-LoadAcc
returns-in-LoadAcc c = search (memory_16, rules)

pub returns-in-StoreAcc : goal.returns-in-StoreAcc
returns-in-StoreAcc c = search (memory_16, rules)

pub returns-in-TestRegReg : goal.returns-in-TestRegReg
returns-in-TestRegReg c = search (file_16, rules)

pub returns-in-TestRegImm : goal.returns-in-TestRegImm
returns-in-TestRegImm c = search (file_16, rules)

pub returns-in-Block : goal.returns-in-Block
returns-in-Block c = memory_32 _ 32 _ _ _ _ _ _ _ (search rules) refl _ c.block.ensures refl

pub returns-in-DecimalString : goal.returns-in-DecimalString
returns-in-DecimalString c = memory_32 _ 33 _ _ _ _ _ _ _ (search rules) refl _ c.string.ensures refl

pub returns-in-Convert : goal.returns-in-Convert
returns-in-Convert c = search (file_32, rules)

pub returns-in-MultiplyReg : goal.returns-in-MultiplyReg
returns-in-MultiplyReg c = search (tries_32, rules)

pub returns-in-Bcwz : goal.returns-in-Bcwz
returns-in-Bcwz c = search (bcwz_is, rules)

pub returns-in-ShiftRegCounted : goal.returns-in-ShiftRegCounted
returns-in-ShiftRegCounted c = memory_32 _ 37 _ _ _ _ _ _ _ (search rules) refl _ c.shift_r.ensures refl

pub returns-in-ShiftMemCounted : goal.returns-in-ShiftMemCounted
returns-in-ShiftMemCounted c = memory_32 _ 38 _ _ _ _ _ _ _ (search rules) refl _ c.shift_m.ensures refl

pub returns-in-Ldea : goal.returns-in-Ldea
returns-in-Ldea c = search (file_32, rules)

pub returns-in-XchRegReg : goal.returns-in-XchRegReg
returns-in-XchRegReg c = search (file_32, rules)

pub returns-in-MovRegSegment : goal.returns-in-MovRegSegment
returns-in-MovRegSegment c = search (file_32, rules)

pub returns-in-BrFar : goal.returns-in-BrFar
returns-in-BrFar c = search (file_32, rules)

pub returns-in-Dbnzne : goal.returns-in-Dbnzne
returns-in-Dbnzne c = search (dbnzne_is, rules)

pub returns-in-Dbnze : goal.returns-in-Dbnze
returns-in-Dbnze c = search (dbnze_is, rules)
