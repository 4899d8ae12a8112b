-- What the functions below a load promise one another. Document 01, "The table" (docs/RULES.md, 7.7): loading a listing.
use Rattle.std.specs.Prelude.{ℕ, ◌*◌, ◌≤◌, cond, ◌≡◌, List, ◌++◌, eqb, ltb, length}
use Rattle.grammar.specs.Listing.{ResourceRecord}
use Rattle.entry.specs.declared.Record.{Record}
use Rattle.writer.specs.Line.{Holds}
use Rattle.listing.specs.Giving.{end, Gives}
use Rattle.slots.specs.Form.{table_bytes}
use Rattle.slots.specs.Sizes.{most_names, slot_size}
use Rattle.slots.specs.Promise.{OfTable}
use Rattle.slots.specs.declared.Rtype.{Rtype}
use Rattle.slots.specs.declared.Rtype.TheVariants as rtype
use Rattle.table.specs.Promise.{slot_for}
use Rattle.table.specs.declared.slot_for.SlotFor.TheVariants.{Held, Free}
use Rattle.table_fault.specs.Judging.{Placed}
use Rattle.table_load.specs.declared.Progress.{Progress}
use Rattle.records.specs.Gathered.{Single, owners, table_of}

-- ---- one record

-- the type by its number: 1 is A, 28 AAAA, any other DHCID
abbrev pub numbered : ℕ → Rtype
numbered n = cond (eqb n 1) rtype.A (cond (eqb n 28) rtype.Aaaa rtype.Dhcid)

-- the table b has so many names, and slot i is that of the name n, or the first unused one if it is new
unfoldable pub AtSlot : List ℕ → ℕ → List ℕ → ℕ → Type 0
AtSlot b used n i = OfTable most_names b (λ t. cond (ltb i used) (Held (slot_size * i)) (Free (slot_size * i)) ≡ slot_for most_names n t)

-- the place p holds a record whose name has slot i of the table b
unfoldable pub Storable : List ℕ → ℕ → ℕ → Record → Type 0
Storable b used i p = (r : ResourceRecord) × Holds p r × AtSlot b used r.owner i

-- ---- all records

-- the records rs of the listing t make a table: no name has two of one type, and there is a slot for each name; ps has the slots in the order of the records
pub record Loadable (t ps : List ℕ) (rs : List ResourceRecord) : Type 0 where
  pub gives : Gives t 0 rs end
  pub single : Single rs
  pub room : length (owners rs) ≤ most_names
  pub placed : Placed rs ps

-- the records of the listing t that stand before p's offset are those of the table b, with their number and that of their names; the others are ahead
pub record Filled (t ps : List ℕ) (p : Progress) (b : List ℕ) : Type 0 where
  pub seen : List ResourceRecord
  pub ahead : List ResourceRecord
  pub all : Loadable t ps (seen ++ ahead)
  pub gives : Gives t p.at ahead end
  pub table : b ≡ table_bytes most_names (table_of seen)
  pub counted : p.count ≡ length seen
  pub named : p.used ≡ length (owners seen)
