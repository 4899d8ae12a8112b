-- The public theorems of `records`: what is written for a table, what a load leaves, and demand 2: the one undoes the other. Each is proved by citation. Assumes nothing.
use Prim.Native.Nat.{ℕ, ◌*◌, ◌≤◌, ◌<◌}
use mathlib.Core.Path.{◌≡◌}
use mathlib.Core.List.{List}
use lib.ListN.{length, take, drop}
use Rattle.base.specs.Answer.{number, value}
use Rattle.base.specs.Bytes.{overlay}
use Rattle.base.specs.Logic.{Every}
use Rattle.base.specs.declared.Answer.{Answer}
use Rattle.base.specs.declared.Answer.TheVariants.{Accepted, Refused}
use Rattle.grammar.specs.Listing.{RecordType, ResourceRecord, Spells}
use Rattle.slots.specs.Form.{Sound}
use Rattle.slots.specs.Sizes.{slot_size}
use Rattle.records.specs.Written.{table_records, listing_of}
use Rattle.records.specs.Gathered.{data_of, owners, table_of}
use Rattle.records.specs.Calls.{Writes, Loads}
use Rattle.records.proofs.WrittenLaws.{listing_spells}
use Rattle.records.proofs.LengthLaws.{listing_most}
use Rattle.records.proofs.WritingLaws.{one_writing, unwritten, room_accepts, written_sound, was_written}
use Rattle.records.proofs.LoadingLaws.{one_loading, unloaded, filled}
use Rattle.records.proofs.TripLaws.{round_trip, loaded_is, written_back}

-- ---- writing

module _ (places : ℕ) (b : List ℕ) where
  -- what is written for a sound table spells just its records, in their order
  pub written_spells : (s : Sound places b) → Every (λ x. x < 256) b → Spells (listing_of s.table) (table_records s.table)
  written_spells s bytes = listing_spells places s.table b s.slots bytes

  -- it has at most 883 bytes for each name, 273 for its A, 300 for its AAAA and 310 for its DHCID
  pub written_short : (s : Sound places b) → length (listing_of s.table) ≤ 883 * length s.table
  written_short s = listing_most s.table s.slots.each

  -- the promise determines the answer and what the area holds
  pub one_write : (out : List ℕ) (r q : Answer) (left also : List ℕ) → Writes places b out r left → Writes places b out q also → (r ≡ q) × (left ≡ also)
  one_write out r q left also w v = one_writing places b out w v

  -- a refused write leaves every byte of the area as it was
  pub refused_write : (out : List ℕ) (r : Answer) (left : List ℕ) → Writes places b out r left → (n at : ℕ) → r ≡ Refused n at → left ≡ out
  refused_write out r left w = unwritten places b out w

  -- a sound table is written to every output that is long enough
  pub enough_room : (s : Sound places b) (out : List ℕ) (r : Answer) (left : List ℕ) → length (listing_of s.table) ≤ length out → Writes places b out r left → number r ≡ 0
  enough_room s out r left fits w = room_accepts places b out s fits w

  -- only a sound table is written
  pub sound_write : (out : List ℕ) (r : Answer) (left : List ℕ) → Writes places b out r left → number r ≡ 0 → Sound places b
  sound_write out r left w done = written_sound places b out w done

  -- an accepted write has written that listing, and answers its length
  pub accepted_write : (s : Sound places b) (out : List ℕ) (r : Answer) (left : List ℕ) → Writes places b out r left → number r ≡ 0
      → (r ≡ Accepted (length (listing_of s.table))) × (left ≡ overlay out 0 (listing_of s.table))
  accepted_write s out r left w done = was_written places b out s w done

-- ---- loading

module _ (limit places : ℕ) (t area : List ℕ) where
  -- the promise determines the answer and what the area holds
  pub one_load : (r q : Answer) (left also : List ℕ) → Loads limit places t area r left → Loads limit places t area q also → (r ≡ q) × (left ≡ also)
  one_load r q left also l k = one_loading limit places t area l k

  -- a refused load leaves every byte of the area as it was
  pub refused_load : (r : Answer) (left : List ℕ) → Loads limit places t area r left → (n at : ℕ) → r ≡ Refused n at → left ≡ area
  refused_load r left l = unloaded limit places t area l

  -- a load whose number is 0 was accepted, and leaves a sound table
  module _ (r : Answer) (left : List ℕ) (l : Loads limit places t area r left) (done : number r ≡ 0) where
    pub accepted_load : r ≡ Accepted 0
    accepted_load = (filled limit places t area l done).answered

    pub sound_load : Sound places (take (slot_size * places) left)
    sound_load = (filled limit places t area l done).sound

    -- which is that of the records that the listing spells
    pub loaded_table : (rs : List ResourceRecord) → Spells t rs → (s : Sound places (take (slot_size * places) left)) → s.table ≡ table_of rs
    loaded_table rs spelled s = loaded_is limit places t area l done rs spelled s

-- ---- one after the other

-- demand 2: every table that was written, which is a sound one, and read again is the same table, byte for byte; and the bytes behind it stay as they were
pub same_table : (limit places : ℕ) (b out : List ℕ) (r : Answer) (left area : List ℕ) (q : Answer) (after : List ℕ) → Every (λ x. x < 256) b → 883 * places ≤ limit
    → Writes places b out r left → number r ≡ 0 → Loads limit places (take (value r) left) area q after → slot_size * places ≤ length area
    → (q ≡ Accepted 0) × (take (slot_size * places) after ≡ b) × (drop (slot_size * places) after ≡ drop (slot_size * places) area)
same_table limit places b out r left area q after bytes room w done l fits = round_trip places b (written_sound places b out w done) bytes limit room w done fits l

-- the other way round: a listing that is loaded and written again spells the same names in the same order, each with the same data of each type
pub same_records : (limit places : ℕ) (t area : List ℕ) (q : Answer) (left out : List ℕ) (r : Answer) (after : List ℕ) (rs : List ResourceRecord) → Every (λ x. x < 256) left → Spells t rs
    → Loads limit places t area q left → number q ≡ 0 → Writes places (take (slot_size * places) left) out r after → number r ≡ 0
    → (qs : List ResourceRecord) × Spells (take (value r) after) qs × (owners qs ≡ owners rs) × ((n : List ℕ) (k : RecordType) → data_of n k qs ≡ data_of n k rs)
same_records limit places t area q left out r after rs bytes spelled l done w wrote = written_back limit places t area l done bytes spelled w wrote
