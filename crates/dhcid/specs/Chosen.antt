-- Which name a request gets. Document 01, "Names", last paragraph; "Refusal numbers", 9 and 12 (docs/RULES.md, 3.4 and 2.2).
use Rattle.std.specs.Prelude.{ℕ, ◌+◌, ◌*◌, ◌/◌, ◌%◌, ◌^◌, Bool, true, false, cond, ◌≡◌, ◌⊎◌, List, eqb, length}
use Rattle.base.specs.Answer.{value}
use Rattle.base.specs.Family.{KnownFamily}
use Rattle.base.specs.Refusal.{no_proper_name, unknown_setting}
use Rattle.base.specs.declared.Answer.{Answer}
use Rattle.base.specs.declared.Answer.TheVariants.{Accepted, Refused}
use Rattle.name.specs.Name.{Proper}
use Rattle.message.specs.Request.{bytes_of, no_part}
use Rattle.message.specs.declared.Part.{Part}
use Rattle.message.specs.declared.Request.{Request}
use Rattle.message4.specs.Message4.{Reads4}
use Rattle.message6.specs.Message6.{Reads6}
use Rattle.dhcid.specs.declared.Chosen.{Chosen}

-- ---- settings and families

-- the client-name setting is 0, the site's name always, or 1, the client's first
unfoldable pub KnownSetting : ℕ → Type 0
KnownSetting setting = (setting ≡ 0) ⊎ (setting ≡ 1)

-- DHCPv4 or DHCPv6, by the number of the family
pub data Says : ℕ → List ℕ → Request → Type 0 where
  v4 : {m : List ℕ} {r : Request} → Reads4 m r → Says 4 m r
  v6 : {m : List ℕ} {r : Request} → Reads6 m r → Says 6 m r

-- ---- the choice

-- refused, and nothing chosen; a part of the message; all of the site's name
unfoldable pub no_choice : ℕ → Chosen
no_choice n = record { refusal = n; from_site = false; part = no_part }

unfoldable pub from_message : Part → Chosen
from_message p = record { refusal = 0; from_site = false; part = p }

unfoldable pub from_site : List ℕ → Chosen
from_site site = record { refusal = 0; from_site = true; part = record { start = 0; len = length site } }

-- the client's name is used: the setting is 1, the request has such a name, and it is proper
pub record UsesClients (setting : ℕ) (m : List ℕ) (r : Request) : Type 0 where
  pub setting_is : setting ≡ 1
  pub there : r.has_name ≡ true
  pub proper : Proper (bytes_of m r.name)

-- which name is chosen, or why none is: 12, then the message's refusals, then 9
pub data Chooses (family setting : ℕ) (m site : List ℕ) : Chosen → Type 0 where
  unknown : ((KnownSetting setting × KnownFamily family) → ⊥) → Chooses family setting m site (no_choice unknown_setting)
  refused : {r : Request} → KnownSetting setting → Says family m r → (r.refusal ≡ 0 → ⊥) → Chooses family setting m site (no_choice r.refusal)
  client's : {r : Request} → Says family m r → r.refusal ≡ 0 → UsesClients setting m r → Chooses family setting m site (from_message r.name)
  site's : {r : Request} → KnownSetting setting → Says family m r → r.refusal ≡ 0 → (UsesClients setting m r → ⊥) → Proper site → Chooses family setting m site (from_site site)
  neither : {r : Request} → KnownSetting setting → Says family m r → r.refusal ≡ 0 → (UsesClients setting m r → ⊥) → (Proper site → ⊥)
      → Chooses family setting m site (no_choice no_proper_name)

-- the bytes of the name that was chosen; none where none was
abbrev pub among : Bool → List ℕ → List ℕ → List ℕ
among true m site = site
among false m site = m

unfoldable pub name_bytes : List ℕ → List ℕ → Chosen → List ℕ
name_bytes m site c = bytes_of (among c.from_site m site) c.part

-- ---- as C gets it

abbrev pub source_number : Bool → ℕ
source_number false = 0
source_number true = 1

abbrev pub answer_by : ℕ → ℕ → Answer
answer_by n v = cond (eqb n 0) (Accepted v) (Refused n 0)

-- where a name stands as one number: the source in bits 30 and 31, the start in bits 8 to 29, the length in bits 0 to 7
unfoldable pub packed_name : Bool → Part → ℕ
packed_name from_site p = source_number from_site * 2 ^ 30 + p.start * 2 ^ 8 + p.len

-- that, or the refusal
unfoldable pub name_answer : Chosen → Answer
name_answer c = answer_by c.refusal (packed_name c.from_site c.part)

-- C takes the value of the answer a apart, by the three helpers of include/vichrelka.h: value >> 30, value >> 8 & 0x3fffff, value & 0xff. They give the source,
-- the start and the length of the choice c; a choice that is none has zeros
pub record NameApart (a : Answer) (c : Chosen) : Type 0 where
  pub source : value a / 2 ^ 30 ≡ source_number c.from_site
  pub start : value a / 2 ^ 8 % 2 ^ 22 ≡ c.part.start
  pub len : value a % 2 ^ 8 ≡ c.part.len

-- what the call for the chosen name answers
unfoldable pub Names : ℕ → ℕ → List ℕ → List ℕ → Answer → Type 0
Names family setting m site a = (c : Chosen) × Chooses family setting m site c × (a ≡ name_answer c)
