-- Instruction bytes, read one after the other: one decoder for the engine and for whoever else reads instructions.
-- 01:23, 48
use Rattle.std.specs.Prelude.{ℕ, ◌+◌, ◌*◌, Bool}
use Rattle.sheet.specs.Width.{pick, extend}

infixl 55 ◌>>=◌
infixl 55 ◌>>◌
pub data Reading (A : Type 0) : Type 0 where
  got : A → Reading A
  need : (ℕ → Reading A) → Reading A
  no : ℕ → Reading A

unfoldable pub ◌>>=◌ : {A B : Type 0} → Reading A → (A → Reading B) → Reading B
got a >>= f = f a
need k >>= f = need (λ b. k b >>= f)
no n >>= f = no n

abbrev pub ◌>>◌ : {A B : Type 0} → Reading A → Reading B → Reading B
p >> q = p >>= (λ _. q)

-- what comes of it: a thing, or a refusal; and how many bytes were read
pub data Read (A : Type 0) : Type 0 where
  known : A → (length : ℕ) → Read A
  unknown : (refusal length : ℕ) → Read A

-- from a source of bytes, i of them read so far
unfoldable pub scan : {A : Type 0} → Reading A → (ℕ → ℕ) → ℕ → Read A
scan (got a) src i = known a i
scan (need k) src i = scan (k (src i)) src (i + 1)
scan (no n) src i = unknown n i

abbrev pub length_of : {A : Type 0} → Read A → ℕ
length_of (known a n) = n
length_of (unknown r n) = n

-- ---- numbers that follow in an instruction

abbrev pub byte : Reading ℕ
byte = need got

-- low byte first
unfoldable pub word : Reading ℕ
word = do
  low ← byte
  high ← byte
  got (low + 256 * high)

-- an immediate of a width
unfoldable pub immediate : Bool → Reading ℕ
immediate w = pick w word byte

-- a byte widened with its sign
unfoldable pub signed_byte : Reading ℕ
signed_byte = do
  b ← byte
  got (extend b)

-- where a test fails, the bytes name no instruction
unfoldable pub allow : Bool → Reading Unit
allow b = pick b (got tt) (no 3)
