-- A zone that holds a table: name by name, in order, each node has at least one record and just those of its entry, in any order.
use Rattle.std.specs.Prelude.{ℕ, false, ◌≡◌, List, [], ◌∷◌}
use Rattle.std.proofs.Math.Option.{Option, none, some}
use Rattle.base.specs.Logic.{Pairwise}
use Rattle.slots.specs.Form.{TableEntry, Sound}
use Rattle.update.specs.Message.{type_a, type_aaaa, type_dhcid}
use Rattle.carried.specs.Zone.{Datum, Node, Zone, is_empty, of_type}

-- what an entry has in a field, as the data of a record set
abbrev pub listed : Option (List ℕ) → List (List ℕ)
listed none = []
listed (some x) = x ∷ []

-- the records ds are those of the entry e, and no others
pub record Has (ds : List Datum) (e : TableEntry) : Type 0 where
  pub a : of_type type_a ds ≡ listed e.a
  pub aaaa : of_type type_aaaa ds ≡ listed e.aaaa
  pub dhcid : of_type type_dhcid ds ≡ listed e.holder
  pub others : (t : ℕ) → (t ≡ type_a → ⊥) → (t ≡ type_aaaa → ⊥) → (t ≡ type_dhcid → ⊥) → of_type t ds ≡ []

pub record NodeOf (x : Node) (e : TableEntry) : Type 0 where
  pub same : x.name ≡ e.name
  pub used : is_empty x.records ≡ false
  pub has : Has x.records e

abbrev pub Holds : Zone → List TableEntry → Type 0
Holds = Pairwise NodeOf

-- the bytes b are a sound table's, and the zone holds that table
pub record HoldsBytes (limit : ℕ) (z : Zone) (b : List ℕ) : Type 0 where
  pub sound : Sound limit b
  pub holds : Holds z sound.table
