-- What contracts of the decoder say.
use Rattle.std.specs.Prelude.{ℕ, ◌+◌, ◌≤◌, ◌≡◌, List, Result, Ok, Err}
use Rattle.sheet.specs.declared.Instr.{Instr}
use Rattle.sheet.specs.declared.Refusal.{Refusal}
use Rattle.sheet.specs.Refusals.{refusal_number}
use Rattle.sheet.specs.Reading.{Reading, Read, known, unknown, scan}
use Rattle.sheet.specs.Encoding.{Row, look_up}
use Rattle.sheet.specs.Contract.{Reads}
use Rattle.code_answer.specs.declared.Decoded.{Decoded}

-- a reading that takes at most n bytes
pub record Takes (A : Type 0) (p : Reading A) (src : ℕ → ℕ) (i : ℕ) (a : A) (j n : ℕ) : Type 0 where
  pub reads : Reads A p src i a j
  pub most : j ≤ i + n

-- what a decoder of instructions of a kind answers
abbrev pub Answer : Type 0 → Type 0
Answer I = Result (Decoded I) Refusal

abbrev pub known_as : {I : Type 0} → I → ℕ → Answer I
known_as a n = Ok (record { instr = a; size = n })

-- the answer with document 01's number for its refusal
abbrev pub numbered : {I : Type 0} → Answer I → Result (Decoded I) ℕ
numbered (Ok d) = Ok d
numbered (Err e) = Err (refusal_number e)

-- an answer for what comes of a reading: the instruction and its bytes, or the refusal's number
abbrev pub answer_of : {I : Type 0} → Read I → Result (Decoded I) ℕ
answer_of (known a n) = Ok (record { instr = a; size = n })
answer_of (unknown r n) = Err r

-- a reading, begun after i bytes of a source, comes to the answer r
pub record Decodes {I : Type 0} (p : Reading I) (src : ℕ → ℕ) (i : ℕ) (r : Answer I) : Type 0 where
  pub is : answer_of (scan p src i) ≡ numbered r

-- the code b of a table, begun after i bytes, comes to the answer r
pub record Names (t : List Row) (b : ℕ) (src : ℕ → ℕ) (i : ℕ) (r : Answer Instr) : Type 0 where
  pub is : Decodes (look_up t b) src i r
