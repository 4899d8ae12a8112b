-- What an answer says, in document 01's terms: a refusal's number, "count 0" where refused, and the place of a fault; and how an
-- answer is told to C. Document 01, "Refusal numbers" (docs/RULES.md, 2.1).
use Rattle.std.specs.Prelude.{ℕ, ◌+◌, ◌*◌, ◌/◌, ◌%◌, ◌^◌, ◌<◌, ◌≡◌}
use Rattle.base.specs.declared.Answer.{Answer}
use Rattle.base.specs.declared.Answer.TheVariants.{Accepted, Refused}

-- the refusal's number; 0, which is no refusal's, where the call was accepted
abbrev pub number : Answer → ℕ
number (Accepted v) = 0
number (Refused n o) = n

-- the value: a count, a length or a code, as the call says; 0 where it was refused
abbrev pub value : Answer → ℕ
value (Accepted v) = v
value (Refused n o) = 0

-- document 01's place (docs/RULES.md, 1.3): the offset in the listing of the first faulty entry; 0 where it was accepted, and where no entry is at fault
abbrev pub offset : Answer → ℕ
offset (Accepted v) = 0
offset (Refused n o) = o

-- document 01 (docs/RULES.md, 2.1): accepted means that the call gives no refusal
unfoldable pub IsAccepted : Answer → Type 0
IsAccepted a = (count : ℕ) × (a ≡ Accepted count)

-- the one number that C gets: in the low 32 bits the refusal's number, 0 where the call was accepted; above them the value, or the refusal's offset. So a
-- host that keeps the answer in 32 bits by mistake still has the refusal
abbrev pub for_c : Answer → ℕ
for_c (Accepted v) = v * 2 ^ 32
for_c (Refused n o) = o * 2 ^ 32 + n

-- the refusal's number has 32 bits, as in every `Answer` of the code
unfoldable pub In32Bits : Answer → Type 0
In32Bits a = number a < 2 ^ 32

-- the number r tells C an answer of which P holds
unfoldable pub Tells : ℕ → (Answer → Type 0) → Type 0
Tells r P = (a : Answer) × (r ≡ for_c a) × In32Bits a × P a

-- C takes the number apart: in the low 32 bits the refusal's number, and above them the value where that is 0 and the offset where it is not
pub record TakenApart (a : Answer) : Type 0 where
  pub low : for_c a % 2 ^ 32 ≡ number a
  pub high : for_c a / 2 ^ 32 ≡ value a + offset a
