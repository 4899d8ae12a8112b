-- The calls that write a table as a listing and that load one: what is answered, and what is left in the bytes that were lent. Document 01, "The
-- table" (docs/RULES.md, 7.7 and 7.8): "Writing", 40 then 13; "Loading", the faults of reading, then 35, then 32; and 13 last, for an area that is
-- too short, of which document 01 does not speak (docs/DECISIONS.md). How many names a table has room for, and the most bytes of a listing, are
-- parameters.
use Rattle.std.specs.Prelude.{ℕ, ◌*◌, ◌≤◌, ◌<◌, ◌≡◌, List, [], ◌∷◌, ◌++◌, length}
use Rattle.base.specs.Bytes.{overlay}
use Rattle.base.specs.Order.{Test, AllHold, FirstFault}
use Rattle.base.specs.Refusal.{output_short, table_full, record_repeated, table_not_sound}
use Rattle.base.specs.declared.Answer.{Answer}
use Rattle.base.specs.declared.Answer.TheVariants.{Accepted, Refused}
use Rattle.grammar.specs.Listing.{ResourceRecord}
use Rattle.grammar.specs.Outcome.{accepted, refused, Checked}
use Rattle.slots.specs.Form.{table_bytes, Sound}
use Rattle.slots.specs.Sizes.{slot_size}
use Rattle.records.specs.Written.{listing_of}
use Rattle.records.specs.Gathered.{Single, owners, table_of}

-- ---- writing

-- the table with the bytes b was written into an area that held `out` and now holds `left`; r was answered
pub data Writes (places : ℕ) (b out : List ℕ) (r : Answer) (left : List ℕ) : Type 0 where
  not_sound : (Sound places b → ⊥) → r ≡ Refused table_not_sound 0 → left ≡ out → Writes places b out r left
  short : (s : Sound places b) → length out < length (listing_of s.table) → r ≡ Refused output_short 0 → left ≡ out → Writes places b out r left
  written : (s : Sound places b) → length (listing_of s.table) ≤ length out → r ≡ Accepted (length (listing_of s.table))
      → left ≡ overlay out 0 (listing_of s.table) → Writes places b out r left

-- ---- loading

-- what has to hold of the records that a listing spells, in this order: 35, 32
abbrev pub record_tests : ℕ → List ResourceRecord → List Test
record_tests places rs = record { number = record_repeated; holds = Single rs } ∷ record { number = table_full; holds = length (owners rs) ≤ places } ∷ []

-- and then of the area: 13
abbrev pub area_tests : ℕ → List ℕ → List Test
area_tests places area = record { number = output_short; holds = slot_size * places ≤ length area } ∷ []

abbrev pub load_tests : ℕ → List ResourceRecord → List ℕ → List Test
load_tests places rs area = record_tests places rs ++ area_tests places area

-- the listing t was loaded into an area that held `area` and now holds `left`; r was answered. Nothing is asked of the bytes that the area held
pub data Loads (limit places : ℕ) (t area : List ℕ) (r : Answer) (left : List ℕ) : Type 0 where
  not_read : {n offset : ℕ} → Checked limit t (refused n offset) → r ≡ Refused n offset → left ≡ area → Loads limit places t area r left
  faulty : {rs : List ResourceRecord} {n : ℕ} → Checked limit t (accepted rs) → FirstFault (load_tests places rs area) n → r ≡ Refused n 0 → left ≡ area
      → Loads limit places t area r left
  loaded : {rs : List ResourceRecord} → Checked limit t (accepted rs) → AllHold (load_tests places rs area) → r ≡ Accepted 0
      → left ≡ overlay area 0 (table_bytes places (table_of rs)) → Loads limit places t area r left
