-- The customer's second demand, sentence by sentence.
use Rattle.std.specs.Prelude.{ℕ, ◌≤◌, ◌<◌, ◌≡◌, ◌↔◌, List, length, take, drop}
use Rattle.std.proofs.Math.Option.{some}
use Rattle.base.specs.Answer.{value, IsAccepted}
use Rattle.base.specs.Logic.{Every}
use Rattle.base.specs.declared.Answer.{Answer}
use Rattle.base.specs.declared.Answer.TheVariants.{Accepted}
use Rattle.name.specs.Name.{canonical}
use Rattle.message.specs.declared.Request.{Request}
use Rattle.dhcid.specs.Chosen.{Says, Chooses}
use Rattle.dhcid.specs.Dhcid as request
use Rattle.dhcid.specs.declared.Chosen.{Chosen}
use Rattle.slots.specs.Entry.{family_of, names, address_of}
use Rattle.slots.specs.Form.{TableEntry, Sound}
use Rattle.table.specs.Steps.{find}
use Rattle.table.specs.Calls.{Adds, Removes, Clears}
use Rattle.table.specs.Demand2.{SoundAdd, SoundRemove, SoundClear, others, Ordered, MayInstall, Installs, Installed, Deleted, Cleared}
use Rattle.records.specs.Calls.{Writes, Loads}
use Rattle.demands.specs.Faults.{Of, Stands}

-- ---- "The DHCID of a request and a name is the one RFC 4701 defines."

-- an accepted call has chosen a name, and left the DHCID of the request that the message says and of that name (dhcid, specs/Dhcid.antt) in the output's first 35 bytes; what stands behind them stays
pub record IsRfc4701 (family setting : ℕ) (m site out : List ℕ) (a : Answer) (left : List ℕ) : Type 0 where
  pub answered : a ≡ Accepted 35
  pub asked : Request
  pub says : Says family m asked
  pub chosen : Chosen
  pub chooses : Chooses family setting m site chosen
  pub named : chosen.refusal ≡ 0
  pub dhcid : take 35 left ≡ request.dhcid_of m site asked chosen
  pub rest : drop 35 left ≡ drop 35 out

-- ---- "Every sound table, written as a listing and read again, is the same table."

-- a listing was loaded into an area for a table, which now holds `after`, and a was answered: the table is the one with the bytes b, and what stands behind it in the area stays
pub record SameTable (b area : List ℕ) (a : Answer) (after : List ℕ) : Type 0 where
  pub accepted : a ≡ Accepted 0
  pub same : take 19968 after ≡ b
  pub rest : drop 19968 after ≡ drop 19968 area

-- ---- "With sound arguments, an add installs a client exactly if the name is unused and a place is free, or holds that client's DHCID, or is held by another DHCID while the site lets the latest client win."

-- an add to the table with the entries t left `left`, and a was answered; its arguments are sound, so that none of 12, 40, 9, 15 and 16 is given (table, specs/Demand2.antt)
pub record AddsClient (t : List TableEntry) (name dhcid : List ℕ) (family : ℕ) (address : List ℕ) (policy : ℕ) (a : Answer) (left : List ℕ) : Type 0 where
  pub sound : Sound 64 left
  pub exactly : Installed sound.table (canonical name) dhcid (family_of family) address a ↔ MayInstall 64 t (canonical name) dhcid policy
  -- what is then answered, and stands under the name: the other family's address too
  pub so : (r : Answer) (e : TableEntry) → Installs 64 t (canonical name) dhcid (family_of family) address policy r e → (a ≡ r) × (find (canonical name) sound.table ≡ some e)
  -- every other entry stays, and so does the order
  pub others : others (canonical name) sound.table ≡ others (canonical name) t
  pub order : Ordered (canonical name) (names t) (names sound.table)

-- ---- "A remove and a clear do what document 01 says and no more." (docs/RULES.md, 7.4 and 7.5)

-- the name's entry in t has that client's DHCID and that address
pub record HoldsAddress (t : List TableEntry) (name dhcid : List ℕ) (family : ℕ) (address : List ℕ) : Type 0 where
  pub entry : TableEntry
  pub stands : find (canonical name) t ≡ some entry
  pub holder : entry.holder ≡ some dhcid
  pub has : address_of (family_of family) entry ≡ some address

pub record RemovesAddress (t : List TableEntry) (name dhcid : List ℕ) (family : ℕ) (address : List ℕ) (a : Answer) (left : List ℕ) : Type 0 where
  pub exactly : IsAccepted a ↔ HoldsAddress t name dhcid family address
  pub sound : Sound 64 left
  -- that address is gone, and with the last address the name; nothing else (document 02, K1)
  pub deleted : IsAccepted a → (a ≡ Accepted 0) × Deleted t sound.table (canonical name) dhcid (family_of family) address

pub record ClearsName (t : List TableEntry) (name : List ℕ) (a : Answer) (left : List ℕ) : Type 0 where
  pub exactly : IsAccepted a ↔ Stands (canonical name) t
  pub sound : Sound 64 left
  -- that name is gone, and nothing else
  pub cleared : IsAccepted a → (a ≡ Accepted 0) × Cleared t sound.table (canonical name)

-- ---- the demand. Each begins with what the calls promise, as in Demand1.antt; that a refused call changes nothing is said there. `Of b` are the entries of the table with the bytes b

pub record Demand2 : Type 0 where
  pub dhcid : (family setting : ℕ) (m site out : List ℕ) (a : Answer) (left : List ℕ) → request.WritesDhcid family setting m site out a left → IsAccepted a
      → IsRfc4701 family setting m site out a left
  -- the write was accepted, so that the table is sound (demand 1), and as many bytes as it answered were loaded into an area for a table, which has 19,968
  pub same_table : (b out : List ℕ) (r : Answer) (left area : List ℕ) (a : Answer) (after : List ℕ) → Every (λ x. x < 256) b → Writes 64 b out r left → IsAccepted r
      → 19968 ≤ length area → Loads 65536 64 (take (value r) left) area a after → SameTable b area a after
  -- an output of 56,512 bytes, 883 for each name, is enough for every sound table
  pub enough : (b out : List ℕ) (r : Answer) (left : List ℕ) → Sound 64 b → 56512 ≤ length out → Writes 64 b out r left → IsAccepted r
  pub add : (b name dhcid : List ℕ) (family : ℕ) (address : List ℕ) (policy : ℕ) (a : Answer) (left : List ℕ) → Adds 64 b name dhcid family address policy a left
      → SoundAdd 64 b name dhcid family address policy → Of b (λ t. AddsClient t name dhcid family address policy a left)
  pub remove : (b name dhcid : List ℕ) (family : ℕ) (address : List ℕ) (a : Answer) (left : List ℕ) → Removes 64 b name dhcid family address a left
      → SoundRemove 64 b name dhcid family address → Of b (λ t. RemovesAddress t name dhcid family address a left)
  pub clear : (b name : List ℕ) (a : Answer) (left : List ℕ) → Clears 64 b name a left → SoundClear 64 b name → Of b (λ t. ClearsName t name a left)
