-- What a name server answers to an UPDATE message, as far as its header says it. RFC 1035, 4.1.1, and RFC 2136, 2.2; document 02, K8 (docs/RULES.md,
-- 13.3): 47, 48. What follows the first twelve bytes is not looked at.
use Rattle.std.specs.Prelude.{ℕ, ◌+◌, ◌*◌, ◌/◌, ◌%◌, ◌≤◌, ◌≡◌, ◌⊎◌, List, [], ◌∷◌, length, get_or}
use Rattle.base.specs.Order.{Test, AllHold, FirstFault}
use Rattle.base.specs.Refusal.{not_the_answer, another_code}
use Rattle.base.specs.declared.Answer.{Answer}
use Rattle.base.specs.declared.Answer.TheVariants.{Accepted, Refused}

-- ---- the header

-- the first two bytes: the number of the message that is answered
abbrev pub id_of : List ℕ → ℕ
id_of a = get_or a 0 0 * 256 + get_or a 1 0

-- the third: QR (1 bit), opcode (4), and three bits that do not matter
abbrev pub qr_of : List ℕ → ℕ
qr_of a = get_or a 2 0 / 128

abbrev pub opcode_of : List ℕ → ℕ
opcode_of a = get_or a 2 0 / 8 % 16

-- the fourth: four bits that do not matter, and the code (RCODE)
abbrev pub rcode_of : List ℕ → ℕ
rcode_of a = get_or a 3 0 % 16

-- ---- the codes: RFC 2136, 2.2

-- NOERROR
abbrev pub done : ℕ
done = 0

-- YXDOMAIN
abbrev pub name_in_use : ℕ
name_in_use = 6

-- YXRRSET
abbrev pub set_stands : ℕ
set_stands = 7

-- NXRRSET
abbrev pub no_such_set : ℕ
no_such_set = 8

-- a code that our messages are answered by
abbrev pub IsOurs : ℕ → Type 0
IsOurs c = (c ≡ done) ⊎ (c ≡ name_in_use) ⊎ (c ≡ set_stands) ⊎ (c ≡ no_such_set)

-- ---- the call

-- what is tested: a whole header, of a response, to an UPDATE, under this number; one of the four codes
abbrev pub reply_tests : ℕ → List ℕ → List Test
reply_tests id a =
    record { number = not_the_answer; holds = 12 ≤ length a }
    ∷ record { number = not_the_answer; holds = qr_of a ≡ 1 }
    ∷ record { number = not_the_answer; holds = opcode_of a ≡ 5 }
    ∷ record { number = not_the_answer; holds = id_of a ≡ id }
    ∷ record { number = another_code; holds = IsOurs (rcode_of a) }
    ∷ []

-- the answer a to the message with that number was read, and r was answered
pub data ReadsReply (id : ℕ) (a : List ℕ) (r : Answer) : Type 0 where
  faulty : {k : ℕ} → FirstFault (reply_tests id a) k → r ≡ Refused k 0 → ReadsReply id a r
  read : AllHold (reply_tests id a) → r ≡ Accepted (rcode_of a) → ReadsReply id a r
