-- The two calls on the bytes of both sides: what is tested before the plan, in which order, and what is answered and left. Document 02, K7 (docs/RULES.md, 12.3 and
-- 12.4): a lease 12 (family, policy), 40 (table, or reverse side), 9, 15, 16, 46, then add's 31, 30 or 32; an ended lease 12, 40, 9, 15, 16, then remove's 33, 31,
-- 30, 34. A refused call leaves the bytes of both sides as they were. How many names and how many addresses there is room for are parameters.
use Rattle.std.specs.Prelude.{ℕ, ◌≡◌, ◌⊎◌, List, ◌∷◌}
use Rattle.base.specs.Family.{KnownFamily}
use Rattle.base.specs.Order.{Test, AllHold, FirstFault}
use Rattle.base.specs.Refusal.{no_proper_name, unknown_setting, table_not_sound}
use Rattle.base.specs.declared.Answer.{Answer}
use Rattle.base.specs.declared.Answer.TheVariants.{Refused}
use Rattle.name.specs.Name.{Proper, canonical}
use Rattle.slots.specs.Entry.{family_of}
use Rattle.slots.specs.Form.{table_bytes, Sound}
use Rattle.table.specs.Calls.{KnownPolicy, client_tests}
use Rattle.reverse.specs.Form.{reverse_bytes, SoundReverse}
use Rattle.leases.specs.Plan.{Sides, Plan, uncut, lease_plan, end_plan}

-- ---- what is tested

-- 40, which is that of both sides, 9, 15, 16
abbrev pub both_tests : ℕ → ℕ → List ℕ → List ℕ → List ℕ → List ℕ → ℕ → List ℕ → List Test
both_tests limit places b c name dhcid family address =
    record { number = table_not_sound; holds = Sound limit b × SoundReverse places c } ∷ record { number = no_proper_name; holds = Proper name } ∷ client_tests dhcid family address

-- and 12 before them. What has to be known for it is the call's own
abbrev pub sides_tests : ℕ → ℕ → Type 0 → List ℕ → List ℕ → List ℕ → List ℕ → ℕ → List ℕ → List Test
sides_tests limit places Known b c name dhcid family address = record { number = unknown_setting; holds = Known } ∷ both_tests limit places b c name dhcid family address

-- of a lease
abbrev pub lease_tests : ℕ → ℕ → List ℕ → List ℕ → List ℕ → List ℕ → ℕ → List ℕ → ℕ → List Test
lease_tests limit places b c name dhcid family address policy = sides_tests limit places (KnownFamily family × KnownPolicy policy) b c name dhcid family address

-- of an ended one, which has no policy
abbrev pub end_tests : ℕ → ℕ → List ℕ → List ℕ → List ℕ → List ℕ → ℕ → List ℕ → List Test
end_tests limit places b c name dhcid family address = sides_tests limit places (KnownFamily family) b c name dhcid family address

-- ---- what is answered and left

-- the lists of two sides that are sound
abbrev pub sides_of : {limit places : ℕ} {b c : List ℕ} → Sound limit b → SoundReverse places c → Sides
sides_of t r = record { table = t.table; names = r.names }

-- one of the tests fails: its number, and both sides stay
pub record Faulty (ts : List Test) (b c : List ℕ) (r : Answer) (b' c' : List ℕ) : Type 0 where
  pub number : ℕ
  pub fault : FirstFault ts number
  pub answer : r ≡ Refused number 0
  pub table : b' ≡ b
  pub reverse : c' ≡ c

-- they all hold, and the plan on both lists decides: its answer, and the bytes of the state after all its writes
pub record Planned (limit places : ℕ) (ts : List Test) (b c : List ℕ) (plan : Sides → Plan) (r : Answer) (b' c' : List ℕ) : Type 0 where
  pub all_hold : AllHold ts
  pub sound : Sound limit b
  pub sound_reverse : SoundReverse places c
  pub answer : r ≡ (plan (sides_of sound sound_reverse)).answer
  pub table : b' ≡ table_bytes limit (uncut (plan (sides_of sound sound_reverse)) (sides_of sound sound_reverse)).table
  pub reverse : c' ≡ reverse_bytes places (uncut (plan (sides_of sound sound_reverse)) (sides_of sound sound_reverse)).names

-- a call on sides that held b and c answered r, and left b' and c'
abbrev pub CalledOn : ℕ → ℕ → List Test → List ℕ → List ℕ → (Sides → Plan) → Answer → List ℕ → List ℕ → Type 0
CalledOn limit places ts b c plan r b' c' = Faulty ts b c r b' c' ⊎ Planned limit places ts b c plan r b' c'

-- ---- the two calls

unfoldable pub Leases : ℕ → ℕ → List ℕ → List ℕ → List ℕ → List ℕ → ℕ → List ℕ → ℕ → Answer → List ℕ → List ℕ → Type 0
Leases limit places b c name dhcid family address policy =
    CalledOn limit places (lease_tests limit places b c name dhcid family address policy) b c (lease_plan limit places (canonical name) dhcid (family_of family) address policy)

unfoldable pub Ends : ℕ → ℕ → List ℕ → List ℕ → List ℕ → List ℕ → ℕ → List ℕ → Answer → List ℕ → List ℕ → Type 0
Ends limit places b c name dhcid family address =
    CalledOn limit places (end_tests limit places b c name dhcid family address) b c (end_plan (canonical name) dhcid (family_of family) address)
