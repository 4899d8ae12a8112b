-- An add and a remove as they are carried to the server of the zone: the messages that the calls write, the second after the first on the code that asks for
-- it, carried out by RFC 2136's rules; and beside them the table's step. Document 02, K8 (docs/RULES.md, 13.4).
use Rattle.std.specs.Prelude.{ℕ, ◌<◌, true, false, ◌≡◌, ◌⊎◌, List, [], ◌∷◌, length}
use Rattle.std.proofs.Math.Option.{none, some}
use Rattle.base.specs.Bytes.{eq_bytes}
use Rattle.base.specs.Dhcid.{well_formed}
use Rattle.base.specs.Family.{KnownFamily}
use Rattle.base.specs.Refusal.{held_by_another, kept_by_hand, table_full, name_not_held, address_differs}
use Rattle.base.specs.declared.Answer.{Answer}
use Rattle.base.specs.declared.Answer.TheVariants.{Accepted, Refused}
use Rattle.name.specs.Name.{canonical}
use Rattle.slots.specs.Effect.{deleted, has_address}
use Rattle.slots.specs.Entry.{family_of, address_size}
use Rattle.slots.specs.Form.{TableEntry}
use Rattle.slots.specs.declared.Family.{Family}
use Rattle.table.specs.Calls.{Adds, Removes}
use Rattle.table.specs.Steps.{StepOutcome, find, add, remove}
use Rattle.update.specs.Calls.{InZone, called, called_last}
use Rattle.update.specs.Message.{type_a, type_aaaa, type_dhcid, message_bytes}
use Rattle.update.specs.Reply.{done, name_in_use, set_stands, no_such_set}
use Rattle.update.specs.Updates.{record_deleted}
use Rattle.update.specs.declared.Kind.TheVariants.{AddFirst, AddSecond, RemoveFirst}
use Rattle.carried.specs.Holds.{Holds}
use Rattle.carried.specs.Rules.{without_one, Outcome, Answers}
use Rattle.carried.specs.Zone.{Zone, set_at}

-- ---- two messages

-- the codes that came back, and the zone that is left
pub record Exchange : Type 0 where
  pub codes : List ℕ
  pub zone : Zone

abbrev pub ended : List ℕ → Zone → Exchange
ended cs z = record { codes = cs; zone = z }

-- the bytes b₁ are carried out on z and, if their code is `on`, the bytes b₂ on what they left
pub data Exchanges (served : List ℕ) (on : ℕ) (b₁ b₂ : List ℕ) (z : Zone) (x : Exchange) : Type 0 where
  one : (o : Outcome) → Answers served b₁ z o → (o.code ≡ on → ⊥) → x ≡ ended (o.code ∷ []) o.zone → Exchanges served on b₁ b₂ z x
  two : (o p : Outcome) → Answers served b₁ z o → o.code ≡ on → Answers served b₂ o.zone p → x ≡ ended (o.code ∷ p.code ∷ []) p.zone
      → Exchanges served on b₁ b₂ z x

-- ---- the arguments

-- as the calls take them: the numbers of the two messages, zone and name in either case, the DHCID, the family's number and the address
pub record Arguments : Type 0 where
  pub first : ℕ
  pub second : ℕ
  pub zone : List ℕ
  pub name : List ℕ
  pub dhcid : List ℕ
  pub family : ℕ
  pub address : List ℕ

-- they pass the tests of the calls, a message's number being one of two bytes, and the zone is the one that is served
pub record Passes (served : List ℕ) (c : Arguments) : Type 0 where
  pub first : c.first < 65536
  pub second : c.second < 65536
  pub family : KnownFamily c.family
  pub inside : InZone c.name c.zone
  pub dhcid : well_formed c.dhcid ≡ true
  pub address : length c.address ≡ address_size (family_of c.family)
  pub here : canonical c.zone ≡ served

-- ---- a step

pub data Step : Type 0 where
  adds : Arguments → Step
  removes : Arguments → Step

abbrev pub arguments_of : Step → Arguments
arguments_of (Step.adds c) = c
arguments_of (Step.removes c) = c

-- on the table, an add under policy 0
abbrev pub stepped : ℕ → Step → List TableEntry → StepOutcome (List ℕ)
stepped limit (Step.adds c) t = add limit eq_bytes t (canonical c.name) c.dhcid (family_of c.family) c.address 0
stepped limit (Step.removes c) t = remove eq_bytes t (canonical c.name) c.dhcid (family_of c.family) c.address

-- and on the bytes of the table, by its call: it answered r, and left `left`
abbrev pub CallOf : ℕ → Step → List ℕ → Answer → List ℕ → Type 0
CallOf limit (Step.adds c) b = Adds limit b c.name c.dhcid c.family c.address 0
CallOf limit (Step.removes c) b = Removes limit b c.name c.dhcid c.family c.address

-- on the zone: of an add the second message follows on the code 6, of a remove on 0
abbrev pub Sends : List ℕ → Step → Zone → Exchange → Type 0
Sends served (Step.adds c) =
    Exchanges served name_in_use (message_bytes (called AddFirst c.first c.zone c.name c.dhcid c.family c.address))
    (message_bytes (called AddSecond c.second c.zone c.name c.dhcid c.family c.address))
Sends served (Step.removes c) =
    Exchanges served done (message_bytes (called RemoveFirst c.first c.zone c.name c.dhcid c.family c.address))
    (message_bytes (called_last c.second c.zone c.name c.dhcid))

-- ---- what the codes say. The step is under the name n of the entries t, which z holds, and answered r

-- 0: the name was unused; 6 and 0: refreshed; 6 and 8: kept by hand, or held by another, and the zone stays
pub data AddTold (n : List ℕ) (t : List TableEntry) (z : Zone) (r : Answer) (x : Exchange) : Type 0 where
  entered : find n t ≡ none → r ≡ Accepted 0 → x.codes ≡ done ∷ [] → AddTold n t z r x
  refreshed : r ≡ Accepted 1 → x.codes ≡ name_in_use ∷ done ∷ [] → AddTold n t z r x
  refused : (r ≡ Refused held_by_another 0) ⊎ (r ≡ Refused kept_by_hand 0) → x ≡ ended (name_in_use ∷ no_such_set ∷ []) z → AddTold n t z r x

-- 0 and 0: no address is left, and the name goes; 0 and 7: the other family's address stands, and the name with it; 8: refused, and the zone stays
pub data RemoveTold (n : List ℕ) (f : Family) (t : List TableEntry) (z : Zone) (r : Answer) (x : Exchange) : Type 0 where
  gone : {e : TableEntry} → find n t ≡ some e → has_address (deleted f e) ≡ false → r ≡ Accepted 0 → x.codes ≡ done ∷ done ∷ [] → RemoveTold n f t z r x
  stays : {e : TableEntry} → find n t ≡ some e → has_address (deleted f e) ≡ true → r ≡ Accepted 0 → x.codes ≡ done ∷ set_stands ∷ [] → RemoveTold n f t z r x
  refused : (r ≡ Refused name_not_held 0) ⊎ (r ≡ Refused kept_by_hand 0) ⊎ (r ≡ Refused held_by_another 0) ⊎ (r ≡ Refused address_differs 0)
      → x ≡ ended (no_such_set ∷ []) z → RemoveTold n f t z r x

abbrev pub Told : Step → List TableEntry → Zone → Answer → Exchange → Type 0
Told (Step.adds c) t z = AddTold (canonical c.name) t z
Told (Step.removes c) t z = RemoveTold (canonical c.name) (family_of c.family) t z

-- the codes say what the table's step answered, and the zone left holds the table left
pub record InStep (told : Answer → Exchange → Type 0) (o : StepOutcome (List ℕ)) (x : Exchange) : Type 0 where
  pub codes : told o.answer x
  pub holds : Holds x.zone o.table

-- ---- the second message of a remove by itself, as it is sent where an answer was lost: whatever the zone z holds, w is left

-- nothing goes; or the name n has neither an A nor an AAAA, and what goes is the DHCID d
pub data LastTakes (n d : List ℕ) (z w : Zone) : Type 0 where
  nothing : w ≡ z → LastTakes n d z w
  its_dhcid : set_at n type_a z ≡ [] → set_at n type_aaaa z ≡ [] → w ≡ without_one (record_deleted n type_dhcid d) z → LastTakes n d z w

-- ---- any number of steps

unfoldable pub table_after : ℕ → List Step → List TableEntry → List TableEntry
table_after limit [] t = t
table_after limit (s ∷ ss) t = table_after limit ss (stepped limit s t).table

-- they take the zone z to the zone w
pub data After (served : List ℕ) : List Step → Zone → Zone → Type 0 where
  at_rest : {z : Zone} → After served [] z z
  then : {s : Step} {ss : List Step} {z w : Zone} (x : Exchange) → Sends served s z x → After served ss x.zone w → After served (s ∷ ss) z w

-- no step answers 32
pub data NeverFull (limit : ℕ) : List Step → List TableEntry → Type 0 where
  at_rest : {t : List TableEntry} → NeverFull limit [] t
  then : {s : Step} {ss : List Step} {t : List TableEntry} → ((stepped limit s t).answer ≡ Refused table_full 0 → ⊥)
      → NeverFull limit ss (stepped limit s t).table → NeverFull limit (s ∷ ss) t

-- the calls on the bytes of the table, each with its messages, take the bytes b and the zone z to the bytes v and the zone w; no call answers 32
pub data BothAfter (limit : ℕ) (served : List ℕ) : List Step → List ℕ → Zone → List ℕ → Zone → Type 0 where
  at_rest : {b : List ℕ} {z : Zone} → BothAfter limit served [] b z b z
  then : {s : Step} {ss : List Step} {b v : List ℕ} {z w : Zone} (r : Answer) (left : List ℕ) (x : Exchange) → CallOf limit s b r left
      → (r ≡ Refused table_full 0 → ⊥) → Sends served s z x → BothAfter limit served ss left x.zone v w → BothAfter limit served (s ∷ ss) b z v w
