-- The calls on the bytes of a table: what is tested before the step, in which order, and what is answered and left. Document 01, "The table"
-- (docs/RULES.md, 7.3 to 7.5): the orders of "Add", "Remove" and "Clear". A refused call leaves the bytes as they were. Find and count, which write
-- nothing, are not document 01's: docs/DECISIONS.md; docs/RULES.md, 7.6.
use Rattle.std.specs.Prelude.{ℕ, true, ◌≡◌, ◌⊎◌, List, [], ◌∷◌, ◌++◌, length}
use Rattle.std.proofs.Math.Option.{none, some}
use Rattle.base.specs.Bytes.{eq_bytes}
use Rattle.base.specs.Dhcid.{well_formed}
use Rattle.base.specs.Family.{KnownFamily}
use Rattle.base.specs.Order.{Test, AllHold, FirstFault}
use Rattle.base.specs.Refusal.{no_proper_name, unknown_setting, not_a_dhcid, address_length, name_not_held, table_not_sound}
use Rattle.base.specs.declared.Answer.{Answer}
use Rattle.base.specs.declared.Answer.TheVariants.{Accepted, Refused}
use Rattle.name.specs.Name.{Proper, canonical}
use Rattle.slots.specs.Entry.{family_of, address_size, position}
use Rattle.slots.specs.Form.{TableEntry, table_bytes, Sound}
use Rattle.table.specs.Steps.{StepOutcome, find, add, remove, clear}

-- ---- what is tested

-- first wins, or latest wins
abbrev pub KnownPolicy : ℕ → Type 0
KnownPolicy policy = (policy ≡ 0) ⊎ (policy ≡ 1)

-- of every call: 40, 9
abbrev pub name_tests : ℕ → List ℕ → List ℕ → List Test
name_tests limit b name = record { number = table_not_sound; holds = Sound limit b } ∷ record { number = no_proper_name; holds = Proper name } ∷ []

-- and then, of a client and its address: 15, 16
abbrev pub client_tests : List ℕ → ℕ → List ℕ → List Test
client_tests dhcid family address =
    record { number = not_a_dhcid; holds = well_formed dhcid ≡ true } ∷ record { number = address_length; holds = length address ≡ address_size (family_of family) } ∷ []

-- of an add and a remove: 12, 40, 9, 15, 16. What has to be known for 12 is the call's own
abbrev pub argument_tests : ℕ → Type 0 → List ℕ → List ℕ → List ℕ → ℕ → List ℕ → List Test
argument_tests limit Known b name dhcid family address =
    record { number = unknown_setting; holds = Known } ∷ (name_tests limit b name ++ client_tests dhcid family address)

-- n is the number of the first that fails, or 0, which is no refusal's, where they all hold
abbrev pub Judged : List Test → ℕ → Type 0
Judged ts n = ((n ≡ 0) × AllHold ts) ⊎ ((n ≡ 0 → ⊥) × FirstFault ts n)

-- ---- what is answered and left

-- one of the tests fails: its number, and the bytes stay
pub record Faulty (ts : List Test) (b : List ℕ) (r : Answer) (left : List ℕ) : Type 0 where
  pub number : ℕ
  pub fault : FirstFault ts number
  pub answer : r ≡ Refused number 0
  pub unchanged : left ≡ b

-- they all hold, and the step on the table's entries decides
pub record Stepped (limit : ℕ) (ts : List Test) (b : List ℕ) (step : List TableEntry → StepOutcome (List ℕ)) (r : Answer) (left : List ℕ) : Type 0 where
  pub all_hold : AllHold ts
  pub sound : Sound limit b
  pub answer : r ≡ (step sound.table).answer
  pub table : left ≡ table_bytes limit (step sound.table).table

abbrev pub Called : ℕ → List Test → List ℕ → (List TableEntry → StepOutcome (List ℕ)) → Answer → List ℕ → Type 0
Called limit ts b step r left = Faulty ts b r left ⊎ Stepped limit ts b step r left

-- ---- the three calls

unfoldable pub Adds : ℕ → List ℕ → List ℕ → List ℕ → ℕ → List ℕ → ℕ → Answer → List ℕ → Type 0
Adds limit b name dhcid family address policy =
    Called limit (argument_tests limit (KnownFamily family × KnownPolicy policy) b name dhcid family address) b
    (λ t. add limit eq_bytes t (canonical name) dhcid (family_of family) address policy)

unfoldable pub Removes : ℕ → List ℕ → List ℕ → List ℕ → ℕ → List ℕ → Answer → List ℕ → Type 0
Removes limit b name dhcid family address =
    Called limit (argument_tests limit (KnownFamily family) b name dhcid family address) b
    (λ t. remove eq_bytes t (canonical name) dhcid (family_of family) address)

unfoldable pub Clears : ℕ → List ℕ → List ℕ → Answer → List ℕ → Type 0
Clears limit b name = Called limit (name_tests limit b name) b (λ t. clear t (canonical name))

-- ---- the two that look

-- Find: 40, 9; then 33, or how many entries stand before the name's
pub data Finds (limit : ℕ) (b name : List ℕ) (r : Answer) : Type 0 where
  faulty : {n : ℕ} → FirstFault (name_tests limit b name) n → r ≡ Refused n 0 → Finds limit b name r
  not_held : (s : Sound limit b) → Proper name → find (canonical name) s.table ≡ none → r ≡ Refused name_not_held 0 → Finds limit b name r
  found : (s : Sound limit b) → Proper name → {e : TableEntry} → find (canonical name) s.table ≡ some e → r ≡ Accepted (position (canonical name) s.table)
      → Finds limit b name r

-- Count: 40, or how many entries there are
pub data Counts (limit : ℕ) (b : List ℕ) (r : Answer) : Type 0 where
  not_sound : (Sound limit b → ⊥) → r ≡ Refused table_not_sound 0 → Counts limit b r
  counted : (s : Sound limit b) → r ≡ Accepted (length s.table) → Counts limit b r
