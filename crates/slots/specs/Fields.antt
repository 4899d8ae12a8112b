-- The three fields of an entry that hold a record's data, one for each type. Their places in a slot are those of Sizes.antt.
use Rattle.std.specs.Prelude.{ℕ, Bool, true, false, List}
use Rattle.std.proofs.Math.Option.{Option, none, some}
use Rattle.slots.specs.Form.{TableEntry}
use Rattle.slots.specs.declared.Rtype.{Rtype}
use Rattle.slots.specs.declared.Rtype.TheVariants.{A, Aaaa, Dhcid}

-- a name and nothing under it
abbrev pub bare : List ℕ → TableEntry
bare n = record { name = n; a = none; aaaa = none; holder = none }

-- what an entry has in a field
abbrev pub in_field : Rtype → TableEntry → Option (List ℕ)
in_field A e = e.a
in_field Aaaa e = e.aaaa
in_field Dhcid e = e.holder

-- is there something?
abbrev pub there : {T : Type 0} → Option T → Bool
there none = false
there (some x) = true

-- an entry with the bytes x in a field
abbrev pub with_field : Rtype → List ℕ → TableEntry → TableEntry
with_field A x e = record { name = e.name; a = some x; aaaa = e.aaaa; holder = e.holder }
with_field Aaaa x e = record { name = e.name; a = e.a; aaaa = some x; holder = e.holder }
with_field Dhcid x e = record { name = e.name; a = e.a; aaaa = e.aaaa; holder = some x }
