-- What the parts of a call promise one another.
use Rattle.std.specs.Prelude.{ℕ, ◌+◌, ◌*◌, ◌≤◌, cond, ◌≡◌, List, ◌++◌, eqb, ltb, length, take, drop}
use Rattle.std.proofs.Math.Option.{Option, none, some}
use Rattle.base.specs.Bytes.{eq_bytes, closed_up}
use Rattle.base.specs.Refusal.{held_by_another, kept_by_hand, name_not_held}
use Rattle.base.specs.declared.Answer.{Answer}
use Rattle.base.specs.declared.Answer.TheVariants.{Accepted, Refused}
use Rattle.slots.specs.Effect.{deleted, has_address}
use Rattle.slots.specs.Entry.{position, address_of}
use Rattle.slots.specs.Form.{TableEntry, slot_bytes, IsSlot, table_bytes}
use Rattle.slots.specs.Promise.{OfSlot, holding, is_address, removal}
use Rattle.slots.specs.Sizes.{slot_size}
use Rattle.slots.specs.declared.Family.{Family}
use Rattle.slots.specs.declared.Holding.{Holding}
use Rattle.slots.specs.declared.Holding.TheVariants.{ByHand, ByThis, ByAnother}
use Rattle.slots.specs.declared.Removal.{Removal}
use Rattle.slots.specs.declared.Removal.TheVariants as says
use Rattle.table.specs.Steps.{StepOutcome, find}
use Rattle.table.specs.declared.slot_for.SlotFor.{SlotFor}
use Rattle.table.specs.declared.slot_for.SlotFor.TheVariants.{Held, Free, Full}
use Rattle.table.specs.declared.step.RemovalFor.{RemovalFor}
use Rattle.table.specs.declared.step.RemovalFor.TheVariants as comes

-- where a name stands, or would: by the offset of its slot
abbrev pub slot_by : Option TableEntry → ℕ → ℕ → ℕ → SlotFor
slot_by (some e) limit at used = Held (slot_size * at)
slot_by none limit at used = cond (ltb used limit) (Free (slot_size * used)) Full

unfoldable pub slot_for : ℕ → List ℕ → List TableEntry → SlotFor
slot_for limit n t = slot_by (find n t) limit (position n t) (length t)

-- what a step comes to at the entry under the name: the answer, and the entry that then stands there
pub record AtEntry : Type 0 where
  pub answer : Answer
  pub entry : TableEntry

-- that is what was answered and left in the slot
pub record LeavesEntry (o : AtEntry) (r : Answer) (left : List ℕ) : Type 0 where
  pub answered : r ≡ o.answer
  pub slot : left ≡ slot_bytes o.entry

-- the slot at an offset, and the table with other bytes there
abbrev pub slot_at : List ℕ → ℕ → List ℕ
slot_at b at = take slot_size (drop at b)

unfoldable pub in_slot : List ℕ → ℕ → List ℕ → List ℕ
in_slot b at s = take at b ++ s ++ drop (at + slot_size) b

-- that is what was answered, and left in the slot at an offset of the table b
pub record LeavesSlot (b : List ℕ) (at : ℕ) (o : AtEntry) (r : Answer) (left : List ℕ) : Type 0 where
  pub answered : r ≡ o.answer
  pub table : left ≡ in_slot b at (slot_bytes o.entry)

-- an add, by who holds the name e, with what is refreshed and what is taken over
abbrev pub added_at : Holding → ℕ → TableEntry → TableEntry → TableEntry → AtEntry
added_at ByHand policy e same taken = record { answer = Refused kept_by_hand 0; entry = e }
added_at ByThis policy e same taken = record { answer = Accepted 1; entry = same }
added_at ByAnother policy e same taken = cond (eqb policy 0) (record { answer = Refused held_by_another 0; entry = e }) (record { answer = Accepted 2; entry = taken })

-- what a remove comes to, by what the slot at an offset says of it
abbrev pub removal_at : Removal → ℕ → RemovalFor
removal_at (says.Refused n) at = comes.Refused n
removal_at says.Address at = comes.Address at
removal_at says.Name at = comes.Name at

-- and by what stands under the name
abbrev pub removal_by : Option TableEntry → ℕ → List ℕ → Family → List ℕ → RemovalFor
removal_by none at d f x = comes.Refused name_not_held
removal_by (some e) at d f x = removal_at (removal (holding eq_bytes e.holder d) (is_address (address_of f e) x) (has_address (deleted f e))) at

-- what a remove comes to, under the name n of the entries t, for the client with the DHCID d, of the address x of the family f: by the offset of the name's slot
unfoldable pub removal_for : List TableEntry → List ℕ → List ℕ → Family → List ℕ → RemovalFor
removal_for t n d f x = removal_by (find n t) (slot_size * position n t) d f x

-- it can be carried out in the bytes b: the slot is there, and is an entry's where its address is deleted
abbrev pub CanCarryOut : RemovalFor → List ℕ → Type 0
CanCarryOut (comes.Refused n) b = Unit {0}
CanCarryOut (comes.Address at) b = (at + slot_size ≤ length b) × IsSlot (slot_at b at)
CanCarryOut (comes.Name at) b = at + slot_size ≤ length b

-- that answer was given, and those bytes left
pub record LeavesTable (answer : Answer) (table : List ℕ) (r : Answer) (left : List ℕ) : Type 0 where
  pub answered : r ≡ answer
  pub bytes : left ≡ table

-- it was carried out in the bytes b, of the family f
abbrev pub CarriesOut : RemovalFor → Family → List ℕ → Answer → List ℕ → Type 0
CarriesOut (comes.Refused n) f b r left = LeavesTable (Refused n 0) b r left
CarriesOut (comes.Address at) f b r left = OfSlot (slot_at b at) (λ e. LeavesTable (Accepted 0) (in_slot b at (slot_bytes (deleted f e))) r left)
CarriesOut (comes.Name at) f b r left = LeavesTable (Accepted 0) (closed_up slot_size b at) r left

-- the answer and the bytes left are those of an outcome
pub record Results (limit : ℕ) (o : StepOutcome (List ℕ)) (r : Answer) (left : List ℕ) : Type 0 where
  pub answer : r ≡ o.answer
  pub table : left ≡ table_bytes limit o.table
