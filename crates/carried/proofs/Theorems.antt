-- The public theorems of `carried` (document 02, K8): the messages of an add and of a remove, carried out by RFC 2136's rules on a zone that holds the table,
-- get the codes that go with the table's answer, and leave a zone that holds the table left; and so any number of them. Each is proved by citation. Assumes
-- nothing.
use Prim.Native.Nat.{ℕ, ◌<◌}
use mathlib.Core.Bool.{true}
use mathlib.Core.Path.{◌≡◌}
use mathlib.Core.List.{List, []}
use mathlib.Core.Option.{none}
use lib.ListN.{length, take}
use Rattle.base.specs.Bytes.{eq_bytes}
use Rattle.base.specs.Logic.{Every, Pairwise}
use Rattle.base.specs.Refusal.{table_full}
use Rattle.base.specs.declared.Answer.{Answer}
use Rattle.base.specs.declared.Answer.TheVariants.{Accepted, Refused}
use Rattle.name.specs.Name.{wire, canonical, Within}
use Rattle.slots.specs.Entry.{family_of}
use Rattle.slots.specs.Form.{TableEntry, WellFormed, Sound}
use Rattle.table.specs.Calls.{Adds, Removes}
use Rattle.table.specs.Steps.{find, add, remove}
use Rattle.update.specs.Calls.{called_last, Writes, WritesLast}
use Rattle.update.specs.Message.{message_bytes}
use Rattle.update.specs.Reply.{done, name_in_use}
use Rattle.update.specs.declared.Kind.TheVariants.{AddFirst, AddSecond, RemoveFirst}
use Rattle.carried.specs.Holds.{Holds, HoldsBytes}
use Rattle.carried.specs.Rules.{Outcome, Answers}
use Rattle.carried.specs.Sent.{Exchange, Exchanges, Arguments, Passes, Step, arguments_of, Sends, AddTold, RemoveTold, InStep, LastTakes, table_after, After, NeverFull, BothAfter}
use Rattle.carried.specs.Zone.{Zone, in_zone}
use Rattle.carried.proofs.WithinLaws.{within_passes, passes_within}
use Rattle.carried.proofs.ExchangeLaws.{one_answer, refused_stays}
use Rattle.carried.proofs.SentLaws as sent
use Rattle.carried.proofs.HeldLaws.{zone_of, zone_holds, same_held}
use Rattle.carried.proofs.BytesLaws.{as_stepped, step_on_bytes, steps_on_bytes}

-- ---- the rules

-- the test for a name in the zone is the definition of `name`, both ways, of every name in wire form
pub within_zone : (n z : List ℕ) → Within (canonical n) z → in_zone z n ≡ true
within_zone n z h = within_passes n z h

pub zone_within : (n z : List ℕ) (ls : List (List ℕ)) → canonical n ≡ wire ls → in_zone z n ≡ true → Within (canonical n) z
zone_within n z ls form h = passes_within n z ls form h

module _ (served b : List ℕ) (z : Zone) where
  -- bytes come to one outcome
  pub one_outcome : (o p : Outcome) → Answers served b z o → Answers served b z p → o ≡ p
  one_outcome o p h k = one_answer served z b o p h k

  -- and a code that is not 0 leaves the zone as it was
  pub code_unchanged : (o : Outcome) → Answers served b z o → (o.code ≡ done → ⊥) → o.zone ≡ z
  code_unchanged o h other = refused_stays served z b o h other

-- ---- a zone that holds a table

-- every sound table has one
pub zone_there : (t : List TableEntry) → Every WellFormed t → (z : Zone) × Holds z t
zone_there t each = (zone_of t, zone_holds t each)

pub zone_for_bytes : (limit : ℕ) (b : List ℕ) → Sound limit b → (z : Zone) × HoldsBytes limit z b
zone_for_bytes limit b s = (zone_of s.table, record { sound = s; holds = zone_holds s.table s.slots.each })

-- and it holds no other
pub one_held : (z : Zone) (t u : List TableEntry) → Holds z t → Holds z u → t ≡ u
one_held z t u h k = same_held z t u h k

module _ (served : List ℕ) where
  -- ---- one step, of arguments that pass

  module _ (c : Arguments) (h : Passes served c) (t : List TableEntry) (z : Zone) (hs : Holds z t) (x : Exchange) where
    -- an add under policy 0, if an unused name finds a free place
    pub add_carried : (limit : ℕ) → (find (canonical c.name) t ≡ none → length t < limit) → Sends served (Step.adds c) z x
        → InStep (AddTold (canonical c.name) t z) (add limit eq_bytes t (canonical c.name) c.dhcid (family_of c.family) c.address 0) x
    add_carried limit room sends = sent.add_sent served c h z t hs x limit room sends

    pub remove_carried : Sends served (Step.removes c) z x
        → InStep (RemoveTold (canonical c.name) (family_of c.family) t z) (remove eq_bytes t (canonical c.name) c.dhcid (family_of c.family) c.address) x
    remove_carried sends = sent.remove_sent served c h z t hs x sends

  -- and so of what the calls wrote: the first v₁ and v₂ bytes of what they left
  module _ (c : Arguments) (h : Passes served c) (t : List TableEntry) (z : Zone) (hs : Holds z t) (x : Exchange) (out₁ out₂ left₁ left₂ : List ℕ) (v₁ v₂ : ℕ) where
    pub add_as_written : (limit : ℕ) → (find (canonical c.name) t ≡ none → length t < limit)
        → Writes AddFirst c.first c.zone c.name c.dhcid c.family c.address out₁ (Accepted v₁) left₁
        → Writes AddSecond c.second c.zone c.name c.dhcid c.family c.address out₂ (Accepted v₂) left₂
        → Exchanges served name_in_use (take v₁ left₁) (take v₂ left₂) z x
        → InStep (AddTold (canonical c.name) t z) (add limit eq_bytes t (canonical c.name) c.dhcid (family_of c.family) c.address 0) x
    add_as_written limit room w₁ w₂ sends = add_carried c h t z hs x limit room (sent.add_as_written served c h z out₁ out₂ left₁ left₂ v₁ v₂ x w₁ w₂ sends)

    pub remove_as_written : Writes RemoveFirst c.first c.zone c.name c.dhcid c.family c.address out₁ (Accepted v₁) left₁
        → WritesLast c.second c.zone c.name c.dhcid out₂ (Accepted v₂) left₂ → Exchanges served done (take v₁ left₁) (take v₂ left₂) z x
        → InStep (RemoveTold (canonical c.name) (family_of c.family) t z) (remove eq_bytes t (canonical c.name) c.dhcid (family_of c.family) c.address) x
    remove_as_written w₁ w₂ sends = remove_carried c h t z hs x (sent.remove_as_written served c h z out₁ out₂ left₁ left₂ v₁ v₂ x w₁ w₂ sends)

  -- its messages come to something
  pub carried_out : (s : Step) (z : Zone) → Passes served (arguments_of s) → (x : Exchange) × Sends served s z x
  carried_out s z h = sent.step_there served s z h

  -- a second remove by itself, on whatever zone
  pub last_by_itself : (c : Arguments) → Passes served c → (z : Zone) (o : Outcome)
      → Answers served (message_bytes (called_last c.second c.zone c.name c.dhcid)) z o → LastTakes (canonical c.name) c.dhcid z o.zone
  last_by_itself c h z o answers = sent.last_sent served c h z o answers

  -- ---- any number of steps

  -- adds under policy 0 and removes, refused ones among them, none with 32, all with names within the zone that is served: the zone left holds the table left
  pub in_step : (limit : ℕ) (ss : List Step) (t : List TableEntry) (z w : Zone) → Every (λ s. Passes served (arguments_of s)) ss → NeverFull limit ss t
      → Holds z t → After served ss z w → Holds w (table_after limit ss t)
  in_step limit ss t z w pass free hs after = sent.steps_sent served limit ss t z w pass free hs after

  pub all_carried_out : (ss : List Step) (z : Zone) → Every (λ s. Passes served (arguments_of s)) ss → (w : Zone) × After served ss z w
  all_carried_out ss z pass = sent.steps_there served ss z pass

  -- in particular from nothing
  pub from_empty : (limit : ℕ) (ss : List Step) (w : Zone) → Every (λ s. Passes served (arguments_of s)) ss → NeverFull limit ss [] → After served ss [] w
      → Holds w (table_after limit ss [])
  from_empty limit ss w pass free after = in_step limit ss [] [] w pass free Pairwise.none after

  -- ---- the same of the table's calls on bytes

  module _ (limit : ℕ) (c : Arguments) (h : Passes served c) (b : List ℕ) (z : Zone) (hold : HoldsBytes limit z b) (r : Answer) (left : List ℕ) (x : Exchange) where
    pub add_on_bytes : Adds limit b c.name c.dhcid c.family c.address 0 r left → (r ≡ Refused table_full 0 → ⊥) → Sends served (Step.adds c) z x
        → AddTold (canonical c.name) hold.sound.table z r x × HoldsBytes limit x.zone left
    add_on_bytes call free sends = step_on_bytes served limit (Step.adds c) b z h hold r left call x free sends

    pub remove_on_bytes : Removes limit b c.name c.dhcid c.family c.address r left → Sends served (Step.removes c) z x
        → RemoveTold (canonical c.name) (family_of c.family) hold.sound.table z r x × HoldsBytes limit x.zone left
    remove_on_bytes call sends = as_stepped served limit (Step.removes c) b z h hold r left call x (remove_carried c h hold.sound.table z hold.holds x sends)

  pub in_step_on_bytes : (limit : ℕ) (ss : List Step) (b v : List ℕ) (z w : Zone) → Every (λ s. Passes served (arguments_of s)) ss → HoldsBytes limit z b
      → BothAfter limit served ss b z v w → HoldsBytes limit w v
  in_step_on_bytes limit ss b v z w pass hold after = steps_on_bytes served limit ss b v z w pass hold after
