-- What a step does to one entry. Document 01, "Add" and "Remove" (docs/RULES.md, 7.3 and 7.4). Each is a definition of its own, for any kind of holder.
use Rattle.std.specs.Prelude.{ℕ, Bool, ◌||◌, List}
use Rattle.std.proofs.Math.Option.{none, some}
use Rattle.slots.specs.Entry.{Entry, other, with_address, with_holder}
use Rattle.slots.specs.Fields.{there}
use Rattle.slots.specs.declared.Family.{Family}

module _ {H : Type 0} where
  -- a new name, with its client and that client's address
  abbrev pub entered : List ℕ → H → Family → List ℕ → Entry H
  entered n h f x = with_address f (some x) (record { name = n; a = none; aaaa = none; holder = some h })

  -- the same client: that family's address is replaced, the other family's stays
  abbrev pub refreshed : Family → List ℕ → Entry H → Entry H
  refreshed f x e = with_address f (some x) e

  -- another client takes the name over: the holder and this family's address are replaced, the other family's is deleted
  abbrev pub taken_over : H → Family → List ℕ → Entry H → Entry H
  taken_over h f x e = with_address f (some x) (with_address (other f) none (with_holder h e))

  -- an address is deleted
  abbrev pub deleted : Family → Entry H → Entry H
  deleted f e = with_address f none e

  -- is an A or an AAAA there? A remove after which neither is takes the name along: document 02, K1 (docs/RULES.md, 7.4)
  abbrev pub has_address : Entry H → Bool
  has_address e = there e.a || there e.aaaa
