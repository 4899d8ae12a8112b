-- Add, remove and clear, as functions of the entries in order of arrival. Document 01, "The table": "Add", "Remove", "Clear" (docs/RULES.md, 7.3 to
-- 7.5). The arguments are sound here: the name is canonical, and nothing else is tested. The number of names, the type of a holder and its equality
-- are parameters.
use Rattle.std.specs.Prelude.{ℕ, Bool, cond, List, [], ◌∷◌, ◌++◌, ltb, eqb, length}
use Rattle.std.proofs.Math.Option.{Option, none, some}
use Rattle.base.specs.Bytes.{eq_bytes}
use Rattle.base.specs.Refusal.{held_by_another, kept_by_hand, table_full, name_not_held, address_differs}
use Rattle.base.specs.declared.Answer.{Answer}
use Rattle.base.specs.declared.Answer.TheVariants.{Accepted, Refused}
use Rattle.slots.specs.Entry.{Entry, address_of}
use Rattle.slots.specs.Effect.{entered, refreshed, taken_over, deleted, has_address}
use Rattle.slots.specs.Promise.{holding, is_address}
use Rattle.slots.specs.declared.Family.{Family}
use Rattle.slots.specs.declared.Holding.{Holding}
use Rattle.slots.specs.declared.Holding.TheVariants.{ByHand, ByThis, ByAnother}

-- what is answered, and the table that then stands
pub record StepOutcome (H : Type 0) : Type 0 where
  pub answer : Answer
  pub table : List (Entry H)

module _ {H : Type 0} where
  -- ---- the look-up, and what is done to one entry

  -- the entry under a name
  unfoldable pub find : List ℕ → List (Entry H) → Option (Entry H)
  find n [] = none
  find n (e ∷ t) = cond (eq_bytes e.name n) (some e) (find n t)

  -- the entry under a name in another state; its place in the order stays
  unfoldable pub changed : List ℕ → (Entry H → Entry H) → List (Entry H) → List (Entry H)
  changed n f [] = []
  changed n f (e ∷ t) = cond (eq_bytes e.name n) (f e ∷ t) (e ∷ changed n f t)

  -- a name gone; later ones move up
  unfoldable pub without : List ℕ → List (Entry H) → List (Entry H)
  without n [] = []
  without n (e ∷ t) = cond (eq_bytes e.name n) t (e ∷ without n t)

  -- ---- what a call comes to

  abbrev pub refused_with : ℕ → List (Entry H) → StepOutcome H
  refused_with n t = record { answer = Refused n 0; table = t }

  abbrev pub accepted_with : ℕ → List (Entry H) → StepOutcome H
  accepted_with v t = record { answer = Accepted v; table = t }

  -- latest wins, unless the policy is 0: first wins
  abbrev pub contested : ℕ → List (Entry H) → List (Entry H) → StepOutcome H
  contested policy t taken = cond (eqb policy 0) (refused_with held_by_another t) (accepted_with 2 taken)

  -- an add, by what stands under the name
  abbrev pub adding : Holding → ℕ → List (Entry H) → List (Entry H) → List (Entry H) → StepOutcome H
  adding ByHand policy t same taken = refused_with kept_by_hand t
  adding ByThis policy t same taken = accepted_with 1 same
  adding ByAnother policy t same taken = contested policy t taken

  -- a remove, by what stands under the name and whether it has that address
  abbrev pub removing : Holding → Bool → List (Entry H) → List (Entry H) → StepOutcome H
  removing ByHand there t gone = refused_with kept_by_hand t
  removing ByThis there t gone = cond there (accepted_with 0 gone) (refused_with address_differs t)
  removing ByAnother there t gone = refused_with held_by_another t

  -- ---- the three steps

  abbrev pub added_to : Option (Entry H) → ℕ → (H → H → Bool) → List (Entry H) → List ℕ → H → Family → List ℕ → ℕ → StepOutcome H
  added_to none limit same t n h f x policy = cond (ltb (length t) limit) (accepted_with 0 (t ++ entered n h f x ∷ [])) (refused_with table_full t)
  added_to (some e) limit same t n h f x policy = adding (holding same e.holder h) policy t (changed n (refreshed f x) t) (changed n (taken_over h f x) t)

  -- Add: under the name n, for the client h, the address x of the family f
  unfoldable pub add : ℕ → (H → H → Bool) → List (Entry H) → List ℕ → H → Family → List ℕ → ℕ → StepOutcome H
  add limit same t n h f x policy = added_to (find n t) limit same t n h f x policy

  -- what a remove leaves of the entries t, where e stands under the name: e without that address; or, if neither an A nor an AAAA is left, the name gone
  -- (document 02, K1)
  abbrev pub removed : List ℕ → Family → Entry H → List (Entry H) → List (Entry H)
  removed n f e t = cond (has_address (deleted f e)) (changed n (deleted f) t) (without n t)

  abbrev pub removed_from : Option (Entry H) → (H → H → Bool) → List (Entry H) → List ℕ → H → Family → List ℕ → StepOutcome H
  removed_from none same t n h f x = refused_with name_not_held t
  removed_from (some e) same t n h f x = removing (holding same e.holder h) (is_address (address_of f e) x) t (removed n f e t)

  -- Remove
  unfoldable pub remove : (H → H → Bool) → List (Entry H) → List ℕ → H → Family → List ℕ → StepOutcome H
  remove same t n h f x = removed_from (find n t) same t n h f x

  abbrev pub cleared_from : Option (Entry H) → List (Entry H) → List ℕ → StepOutcome H
  cleared_from none t n = refused_with name_not_held t
  cleared_from (some e) t n = accepted_with 0 (without n t)

  -- Clear
  unfoldable pub clear : List (Entry H) → List ℕ → StepOutcome H
  clear t n = cleared_from (find n t) t n
